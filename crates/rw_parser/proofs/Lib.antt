pub mod Composing
pub mod Ends
pub mod Firsts
pub mod Looping
pub mod NameTokens
pub mod Plain
pub mod Starts
