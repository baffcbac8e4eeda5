pub mod Picks
pub mod Loops
pub mod Bools
pub mod Lists
pub mod Filling
pub mod Slices
pub mod FromFn
