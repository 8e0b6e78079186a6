pub mod Tells
pub mod States
