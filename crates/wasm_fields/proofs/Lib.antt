pub mod Counted
pub mod Firsts
pub mod Names
pub mod Rules
pub mod SectionFaults
