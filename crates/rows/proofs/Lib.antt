pub mod Walk
pub mod Tests
pub mod Computed
pub mod Written
