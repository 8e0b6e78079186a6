pub mod Moving
pub mod Ifs
pub mod Calling
