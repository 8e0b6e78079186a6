pub mod Erased
