mod Rows
pub mod Types
pub mod Instructions
