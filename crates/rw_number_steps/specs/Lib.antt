pub mod Operators
pub mod Finding
