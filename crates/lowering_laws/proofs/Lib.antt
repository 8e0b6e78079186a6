pub mod Locals
pub mod Values
pub mod Walks
pub mod Relation
pub mod Instructions
pub mod Behaves
pub mod Starting
pub mod Rows
