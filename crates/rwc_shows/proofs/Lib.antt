pub mod FirstLines
pub mod Putting
pub mod Showing
