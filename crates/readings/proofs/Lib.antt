pub mod Partial
pub mod ClosedInputs
pub mod Demands
