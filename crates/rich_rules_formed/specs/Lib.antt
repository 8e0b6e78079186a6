pub mod Formed
pub mod Standing
pub mod Laws
