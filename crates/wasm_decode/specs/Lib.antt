pub mod Steps
pub mod CustomSections
pub mod CustomSteps
pub mod Decoding
