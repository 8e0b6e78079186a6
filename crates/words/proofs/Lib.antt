pub mod Slashes
pub mod Sources
pub mod Values
pub mod Decimals
pub mod Splitting
pub mod Spelling
pub mod OneCommand
pub mod SomeCommand
