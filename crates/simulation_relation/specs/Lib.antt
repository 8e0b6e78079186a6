pub mod Words
pub mod Bodies
pub mod Calls
pub mod Relation
pub mod Laws
