pub mod Instructions
pub mod Typed
