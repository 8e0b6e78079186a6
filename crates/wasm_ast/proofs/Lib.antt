pub mod Folds
pub mod Tables
pub mod Plain
pub mod Counts
