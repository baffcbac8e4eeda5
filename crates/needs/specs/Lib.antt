pub mod Needed
pub mod Rounds
