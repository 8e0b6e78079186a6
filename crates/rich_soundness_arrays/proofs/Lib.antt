pub mod Elements
pub mod Making
pub mod Reading
pub mod Writing
pub mod Arrays
