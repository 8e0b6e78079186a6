pub mod Signatures
pub mod IndexInstructions
