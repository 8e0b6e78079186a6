pub mod Unique
pub mod LoneBodies
pub mod Built
pub mod LoneModules
pub mod Rows
