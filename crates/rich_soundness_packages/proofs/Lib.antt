pub mod Beneath
pub mod Making
pub mod Packages
