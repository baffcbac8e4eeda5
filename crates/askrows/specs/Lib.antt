pub mod Judgements
pub mod Needs
pub mod Trusted
pub mod Sheets
