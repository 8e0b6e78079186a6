pub mod Kinds
pub mod Table
pub mod Derivations
pub mod Violations
pub mod Laws
pub mod Rows
