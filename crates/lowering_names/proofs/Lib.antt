pub mod Sizes
pub mod Notes
pub mod Places
pub mod Names
