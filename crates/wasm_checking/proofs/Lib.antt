pub mod Judging
pub mod Operations
pub mod Bodies
