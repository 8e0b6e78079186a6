pub mod Entered
pub mod Alone
pub mod Lists
pub mod Bodies
