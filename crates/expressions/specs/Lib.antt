pub mod Tables
pub mod Readers
