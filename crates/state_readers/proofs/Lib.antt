pub mod ReaderLaws
pub mod PassedLaws
