pub mod Layout
pub mod Cells
pub mod Records
pub mod Walks
