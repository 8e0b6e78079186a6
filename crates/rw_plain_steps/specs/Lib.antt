pub mod Operands
pub mod Effects
