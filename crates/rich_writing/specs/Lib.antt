pub mod Pieces
pub mod Types
pub mod Operators
pub mod Instructions
pub mod Modules
pub mod Rows
