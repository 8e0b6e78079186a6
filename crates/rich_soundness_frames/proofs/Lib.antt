pub mod Framed
pub mod Still
pub mod Contents
pub mod Formed
pub mod Acts
