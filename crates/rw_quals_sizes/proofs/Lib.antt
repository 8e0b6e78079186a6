pub mod Within
pub mod Bodies
pub mod Formed
