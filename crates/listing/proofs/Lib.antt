pub mod Rows
pub mod Entry
