pub mod ComputedFaults
pub mod HeightLayers
