pub mod Shapes
pub mod Sized
pub mod Bounded
pub mod Rows
