pub mod Unr
pub mod Landing
pub mod Giving
pub mod Branches
