pub mod Words
pub mod Walks
pub mod Which
pub mod Kept
pub mod Standing
pub mod Waiting
