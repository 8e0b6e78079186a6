pub mod Numbers
pub mod Linked
pub mod TypedPrograms
pub mod Rows
