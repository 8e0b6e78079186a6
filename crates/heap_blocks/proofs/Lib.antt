pub mod Lists
pub mod Readings
pub mod Walks
pub mod Fits
pub mod Rows
