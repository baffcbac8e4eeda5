pub mod Parts
pub mod Dropped
