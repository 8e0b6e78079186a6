pub mod Going
pub mod Newlines
