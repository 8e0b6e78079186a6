pub mod Found
pub mod Files
pub mod Sources
pub mod Words
pub mod Reading
pub mod Commands
