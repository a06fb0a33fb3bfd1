pub mod Forking
pub mod Returning
