pub mod Compared
pub mod Formed
pub mod Decided
pub mod Unique
