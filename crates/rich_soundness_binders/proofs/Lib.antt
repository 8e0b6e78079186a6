pub mod Onto
pub mod Sizes
pub mod Bodies
