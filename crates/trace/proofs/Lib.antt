pub mod Replaying
pub mod Laws
