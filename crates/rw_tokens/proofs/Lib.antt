pub mod Blanks
pub mod Closings
pub mod Encoded
pub mod Names
pub mod Taking
pub mod Words
