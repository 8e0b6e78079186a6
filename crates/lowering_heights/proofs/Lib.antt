pub mod Sizes
pub mod Parts
pub mod Ends
pub mod Counted
pub mod Within
pub mod Bodies
