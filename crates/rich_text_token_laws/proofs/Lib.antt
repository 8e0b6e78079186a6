pub mod Begun
pub mod Longest
pub mod Steps
pub mod Whole
