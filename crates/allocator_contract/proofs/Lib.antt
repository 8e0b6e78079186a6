pub mod Reaching
pub mod Instructions
pub mod Returning
pub mod Sizes
pub mod Starting
