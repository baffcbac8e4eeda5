pub mod Refusals
pub mod Rounded
