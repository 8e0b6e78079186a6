pub mod Raised
pub mod Told
