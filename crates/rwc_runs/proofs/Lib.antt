pub mod Fronts
pub mod Puts
pub mod Jobs
pub mod Executing
pub mod Kept
