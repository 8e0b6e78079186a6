pub mod Heaps
pub mod Values
pub mod Cells
pub mod Laws
