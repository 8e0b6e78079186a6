pub mod Demands
pub mod Left
pub mod Ends
