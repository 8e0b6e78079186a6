pub mod Cells
pub mod Bodies
