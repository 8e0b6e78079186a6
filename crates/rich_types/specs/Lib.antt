pub mod Scopes
pub mod Sizes
pub mod WellFormed
pub mod Walks
pub mod Instances
pub mod Rows
