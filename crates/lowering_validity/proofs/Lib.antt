pub mod Bodies
pub mod Valid
pub mod Starting
