pub mod Choices
pub mod Weights
pub mod Returning
