pub mod Padded
pub mod Rounds
