pub mod Cutting
pub mod Exploring
