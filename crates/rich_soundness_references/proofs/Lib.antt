pub mod There
pub mod References
