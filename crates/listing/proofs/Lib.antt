pub mod Written
pub mod Lines
pub mod Whole
pub mod Judging
pub mod Buffer
