pub mod Lists
pub mod Dropping
pub mod Judging
pub mod Consequences
