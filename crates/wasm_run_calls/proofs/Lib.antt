pub mod Leading
pub mod Giving
pub mod Calling
pub mod Branching
pub mod Popping
