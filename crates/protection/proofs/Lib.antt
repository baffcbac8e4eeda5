pub mod Names
mod Small
mod Readings
mod CarryingReadings
pub mod Sums
pub mod Carrying
pub mod Model
pub mod Widening
pub mod Spare
pub mod Calls
pub mod Saturated
pub mod Closed
pub mod First
pub mod Places
pub mod Rounds
pub mod Invariant
pub mod Old
pub mod Holding
pub mod Fixpoint
pub mod ClosingSearch
pub mod Bound
pub mod Consequences
pub mod Saturation
pub mod Parts
pub mod Safety
pub mod Trusted
pub mod Fronts
pub mod Spared
pub mod Needed
