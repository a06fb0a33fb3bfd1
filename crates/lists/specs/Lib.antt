pub mod Share
pub mod Text
pub mod Handed
pub mod Printouts
pub mod Examples
