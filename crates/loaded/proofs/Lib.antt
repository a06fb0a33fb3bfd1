pub mod Files
pub mod Loaded
pub mod Beginning
