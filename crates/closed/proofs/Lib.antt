pub mod Beginning
pub mod Answering
pub mod Demands
