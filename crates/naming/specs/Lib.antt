pub mod Encodings
pub mod Short
pub mod Letters
pub mod Left
