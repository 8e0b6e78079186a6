pub mod Today
pub mod Lists
