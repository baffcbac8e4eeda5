pub mod Closing
pub mod Asks
