pub mod Steps
pub mod Moves
pub mod Cells
pub mod Plain
pub mod Lists
