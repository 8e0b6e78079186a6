pub mod Events
pub mod Heaps
pub mod Places
pub mod Safety
pub mod Honesty
pub mod Rows
