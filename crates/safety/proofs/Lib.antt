pub mod Refusals
pub mod Buffers
pub mod Concluding
pub mod Consequences
pub mod Demand3
