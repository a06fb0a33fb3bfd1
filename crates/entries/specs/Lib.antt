pub mod Spans
pub mod Each
