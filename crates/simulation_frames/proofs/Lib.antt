pub mod Words
pub mod Locals
pub mod Open
pub mod Onward
pub mod Pushed
