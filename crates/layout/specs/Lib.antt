pub mod Bodies
pub mod Calls
pub mod Cells
pub mod Frames
pub mod Limits
pub mod Worked
