pub mod Effects
pub mod Stores
pub mod Laws
