pub mod Keeping
pub mod Pushing
pub mod Taking
pub mod Weights
pub mod Returning
