pub mod Blocks
pub mod FreeLists
pub mod Allocation
pub mod Laws
pub mod Rows
