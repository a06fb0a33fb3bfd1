pub mod Unfolds
pub mod Variables
