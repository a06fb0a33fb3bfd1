pub mod Passes
pub mod Tabled
pub mod Answers
pub mod Demands
