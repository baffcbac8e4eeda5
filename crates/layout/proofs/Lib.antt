pub mod Accepted
pub mod Tests
pub mod OrElse
