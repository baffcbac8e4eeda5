pub mod Asking
pub mod Filling
pub mod Promise
pub mod Consequences
