pub mod Walks
pub mod Lists
pub mod Heaps
pub mod Allocating
pub mod Freeing
pub mod Granting
pub mod Calls
