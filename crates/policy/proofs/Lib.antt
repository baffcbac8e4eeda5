pub mod Accepted
pub mod Policies
pub mod Laws
pub mod FileState
pub mod Rewritten
pub mod ReadPolicy
