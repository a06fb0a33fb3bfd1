pub mod Answering
pub mod Evaluating
