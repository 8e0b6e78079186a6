pub mod Binders
pub mod Rests
pub mod Found
pub mod Rows
