pub mod Preserved
pub mod Demand2
pub mod Stored
pub mod Consequences
