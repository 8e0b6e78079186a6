pub mod InstructionLayers
pub mod WorkedRows
pub mod Sections
pub mod WorkedInstructions
