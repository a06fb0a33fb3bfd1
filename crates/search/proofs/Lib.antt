pub mod Beginning
pub mod Answering
pub mod Reading
pub mod Called
pub mod Demands
