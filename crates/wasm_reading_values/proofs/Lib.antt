pub mod Compose
pub mod ExactNumbers
pub mod ExactLists
pub mod ExactTables
pub mod ExactTypes
pub mod ExactEntries
pub mod ExactCodes
