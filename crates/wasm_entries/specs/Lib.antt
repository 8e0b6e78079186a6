pub mod FuncTypeStates
pub mod ImportStates
pub mod ExportStates
pub mod GlobalStates
pub mod ElementStates
pub mod SegmentStates
