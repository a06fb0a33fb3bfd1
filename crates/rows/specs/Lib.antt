pub mod Values
pub mod Stack
