pub mod Refusals
pub mod Layout
pub mod Contents
pub mod Fits
