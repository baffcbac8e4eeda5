pub mod Carrying
