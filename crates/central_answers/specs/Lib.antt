pub mod Answers
pub mod Sole
