pub mod SpellingLaws
pub mod PaddedModule
pub mod FullModule
