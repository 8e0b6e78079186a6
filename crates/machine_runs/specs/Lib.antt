pub mod Turns
pub mod Lines
pub mod Advances
pub mod Runs
