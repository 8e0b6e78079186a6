pub mod Counted
pub mod Pushes
