pub mod Entries
pub mod Lists
