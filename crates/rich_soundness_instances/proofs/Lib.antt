pub mod Closed
pub mod Argued
