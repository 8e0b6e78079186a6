pub mod Heights
pub mod Answers
pub mod Places
