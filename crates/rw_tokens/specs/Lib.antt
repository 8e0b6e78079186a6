pub mod Streams
pub mod Found
