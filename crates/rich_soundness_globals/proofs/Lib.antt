pub mod Lists
pub mod Globals
