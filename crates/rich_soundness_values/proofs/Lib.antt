pub mod Sized
pub mod Typed
pub mod Framed
