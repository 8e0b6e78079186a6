pub mod Named
pub mod Fitting
