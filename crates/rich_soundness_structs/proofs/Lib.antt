pub mod Slots
pub mod Making
pub mod Reading
pub mod Writing
pub mod Structs
