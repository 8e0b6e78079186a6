pub mod Splits
pub mod Bodies
pub mod Entered
pub mod Lists
