pub mod Least
pub mod OneForm
pub mod Shortest
pub mod Spelled
