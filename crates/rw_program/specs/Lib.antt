pub mod Modules
pub mod Programs
pub mod LonePrograms
pub mod Linking
