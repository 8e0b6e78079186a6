pub mod Kept
pub mod Named
pub mod Ranges
pub mod Writing
