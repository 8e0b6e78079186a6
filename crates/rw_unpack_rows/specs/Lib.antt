pub mod Bound
pub mod Hiding
pub mod Worked
