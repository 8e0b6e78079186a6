pub mod Widths
pub mod Quotients
pub mod Digits
pub mod Counts
pub mod Operators
pub mod Laws
pub mod Rows
