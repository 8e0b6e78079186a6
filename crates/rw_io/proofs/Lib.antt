pub mod Joined
pub mod Offered
mod TakenFronts
