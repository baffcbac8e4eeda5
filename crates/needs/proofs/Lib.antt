pub mod Listed
pub mod Needing
