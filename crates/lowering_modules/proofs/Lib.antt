pub mod Types
pub mod Contexts
pub mod Codes
pub mod Fields
pub mod Valid
