pub mod Live
pub mod Stores
pub mod Made
pub mod Opened
