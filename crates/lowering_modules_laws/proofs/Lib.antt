pub mod Starting
pub mod Alike
