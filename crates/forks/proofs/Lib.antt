pub mod Untried
