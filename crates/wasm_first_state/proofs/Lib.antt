pub mod Codes
pub mod Beginning
