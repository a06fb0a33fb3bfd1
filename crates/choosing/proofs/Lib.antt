pub mod Choosing
pub mod Inspecting
pub mod Entering
