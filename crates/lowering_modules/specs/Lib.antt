pub mod Types
pub mod Modules
pub mod Laws
