pub mod Meanings
pub mod Ends
