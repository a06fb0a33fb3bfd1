pub mod Standing
pub mod Noting
pub mod Binding
