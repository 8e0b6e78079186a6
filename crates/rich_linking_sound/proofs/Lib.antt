pub mod Renumbered
pub mod Fields
pub mod Sound
