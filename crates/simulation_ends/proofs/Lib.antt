pub mod Sizes
pub mod Around
pub mod Ends
