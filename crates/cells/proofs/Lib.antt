pub mod Writing
pub mod Rooms
pub mod Binding
