pub mod Starting
pub mod Going
pub mod Memoryless
pub mod Turning
