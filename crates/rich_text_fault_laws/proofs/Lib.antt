pub mod Encodings
pub mod Lexers
pub mod Order
pub mod Readers
pub mod Versions
pub mod Whole
