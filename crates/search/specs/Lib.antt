pub mod Searching
pub mod Answering
