pub mod Inverse
pub mod KindBytes
pub mod Tests
pub mod Operations
pub mod Renewed
