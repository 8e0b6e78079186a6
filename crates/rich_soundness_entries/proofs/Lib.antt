pub mod Raised
pub mod Entered
pub mod Locations
