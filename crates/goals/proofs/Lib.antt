pub mod Holding
pub mod Ending
pub mod Lists
