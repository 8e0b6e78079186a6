pub mod CodeSteps
pub mod EntrySteps
pub mod ContentsWantBytes
