pub mod Forms
pub mod Plain
pub mod Cells
pub mod Effects
pub mod Says
pub mod Growing
pub mod Counting
pub mod Runs
