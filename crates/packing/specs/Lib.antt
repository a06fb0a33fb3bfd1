pub mod Packing
pub mod Unpacking
