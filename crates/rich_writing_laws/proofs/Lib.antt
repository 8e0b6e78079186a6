mod Layouts
mod Decimals
mod Forms
pub mod Whole
