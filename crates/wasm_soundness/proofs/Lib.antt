pub mod Faults
pub mod Functions
pub mod Stores
pub mod Starts
