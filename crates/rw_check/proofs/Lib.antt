pub mod PlainLists
pub mod Counted
pub mod Refusals
