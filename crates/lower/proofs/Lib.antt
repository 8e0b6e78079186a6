pub mod Lists
pub mod Derived
pub mod Lowered
pub mod Nested
pub mod Fitting
pub mod ShortContents
pub mod SevenRow
pub mod EndedRow
