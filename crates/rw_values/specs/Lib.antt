pub mod Values
pub mod Codes
pub mod Rows
pub mod RowCodes
