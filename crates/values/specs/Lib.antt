pub mod Positions
pub mod Notes
