pub mod Programs
pub mod Points
pub mod Good
