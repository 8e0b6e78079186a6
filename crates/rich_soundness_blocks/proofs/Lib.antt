pub mod Initialisers
pub mod Blocks
