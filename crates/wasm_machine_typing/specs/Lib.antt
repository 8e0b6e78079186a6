pub mod Values
pub mod Lists
pub mod Configurations
pub mod Laws
pub mod Rows
