pub mod Tables
pub mod Imports
pub mod Bodies
pub mod Finding
pub mod Numbers
pub mod Same
