pub mod Build
pub mod Cases
pub mod Asked
