-- What is proved of filling and of names. Demands is the one to read first.
pub mod Filling
pub mod Entries
pub mod Names
pub mod Levels
pub mod Demands
