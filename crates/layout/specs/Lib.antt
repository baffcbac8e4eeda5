pub mod File
pub mod Refusals
