pub mod Answers
pub mod Passing
pub mod Counts
pub mod Tails
