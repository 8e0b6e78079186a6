pub mod Tails
pub mod Compared
