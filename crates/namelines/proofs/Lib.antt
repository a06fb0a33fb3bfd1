-- Lemmas of this crate; the proof of each function stands in its own folder.
pub mod Letters
pub mod Rows
pub mod Lengths
pub mod Onward
pub mod Entries
pub mod Files
