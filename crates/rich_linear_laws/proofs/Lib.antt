pub mod Exchanged
pub mod Rows
pub mod Globals
pub mod Bodies
pub mod NoExchanges
