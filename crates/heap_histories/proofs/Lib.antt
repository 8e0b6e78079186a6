pub mod Growing
pub mod Extents
pub mod Starting
