pub mod Bytes
pub mod Canonical
pub mod Matrices
pub mod Refusals
