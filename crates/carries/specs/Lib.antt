pub mod Bytes
pub mod Refusals
pub mod Closed
pub mod Meeting
