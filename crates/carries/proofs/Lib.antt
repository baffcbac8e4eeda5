pub mod Sets
pub mod Closing
pub mod Meeting
pub mod Refusing
