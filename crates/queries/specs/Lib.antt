pub mod Useful
pub mod Sought
