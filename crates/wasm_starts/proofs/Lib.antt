pub mod Failing
pub mod Putting
pub mod Hosts
pub mod Begins
pub mod Outs
pub mod Whole
