pub mod Limits
pub mod Types
pub mod Values
pub mod Profile
