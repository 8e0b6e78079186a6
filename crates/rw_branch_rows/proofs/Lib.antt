pub mod Left
pub mod Told
pub mod Rows
