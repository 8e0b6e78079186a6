pub mod Programs
pub mod ControlRows
pub mod OpeningRows
pub mod StructsRows
pub mod ArraysRows
pub mod GlobalsRows
