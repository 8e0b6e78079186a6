pub mod Walked
pub mod Composed
pub mod Arguments
pub mod Unchanged
pub mod Carried
pub mod Answered
pub mod Agreeing
