pub mod Moves
pub mod Closed
pub mod Forms
pub mod Widths
pub mod Operands
pub mod Numbers
pub mod Locals
pub mod Rights
