pub mod Bytes
pub mod Steps
pub mod Starts
pub mod Words
