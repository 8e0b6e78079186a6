pub mod Rows
pub mod Kept
pub mod Placed
pub mod Found
pub mod Programs
pub mod Files
