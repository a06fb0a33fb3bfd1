pub mod Tables
pub mod Views
pub mod Passing
pub mod Expressions
pub mod Sequences
