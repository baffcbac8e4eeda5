pub mod Steps
pub mod Refusals
pub mod Contents
pub mod Fits
