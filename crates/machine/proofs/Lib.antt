pub mod Cells
pub mod Codes
pub mod Records
pub mod Words
