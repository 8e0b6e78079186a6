pub mod Parts
pub mod Entered
pub mod Blocks
pub mod Loops
