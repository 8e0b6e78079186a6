pub mod Loading
pub mod Endings
pub mod Putting
