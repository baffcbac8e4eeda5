pub mod Replay
pub mod Judge
pub mod Part
pub mod Need
pub mod Sheet
