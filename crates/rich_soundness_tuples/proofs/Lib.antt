pub mod Lists
pub mod Tuples
