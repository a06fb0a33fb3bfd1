-- Lemmas of this crate; the proof of each function stands in its own folder.
pub mod Reports
pub mod Program
