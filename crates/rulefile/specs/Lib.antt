pub mod Answering
pub mod Loading
