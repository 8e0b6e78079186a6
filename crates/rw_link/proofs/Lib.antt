pub mod ExportLists
pub mod LoneFiles
