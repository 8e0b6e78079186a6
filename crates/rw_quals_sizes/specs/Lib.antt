pub mod Chains
pub mod Capped
