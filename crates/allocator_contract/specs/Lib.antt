pub mod Heaps
pub mod Walks
pub mod Contract
pub mod Laws
