pub mod Sound
pub mod Bodies
pub mod Codes
pub mod Called
pub mod Calls
