pub mod Bound
pub mod Reached
pub mod Advancing
