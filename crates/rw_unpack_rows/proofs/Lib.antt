pub mod Inside
mod Rows
pub mod Seen
