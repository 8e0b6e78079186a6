pub mod Among
pub mod Walked
