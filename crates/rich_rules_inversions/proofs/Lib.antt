pub mod Takers
pub mod Cells
pub mod MoreTakers
pub mod Bodies
