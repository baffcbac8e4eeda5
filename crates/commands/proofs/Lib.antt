pub mod Accepted
pub mod Contents
pub mod Reading
pub mod Names
pub mod Fitting
