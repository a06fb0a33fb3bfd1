pub mod Filling
pub mod Spelling
pub mod NameList
