pub mod Shrinking
pub mod ShrinkingEntries
pub mod Fuel
