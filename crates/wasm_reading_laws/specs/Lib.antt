pub mod ModulesRead
pub mod FirstFaults
pub mod WorkedModulesRead
pub mod WorkedFronts
