pub mod Heights
pub mod Parts
pub mod Lone
pub mod Laws
pub mod SevenRow
pub mod EndedRow
