pub mod Looked
pub mod Running
