pub mod Answered
pub mod Sizes
