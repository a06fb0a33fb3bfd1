pub mod Finding
pub mod Filling
