pub mod Ad
pub mod Answers
pub mod Body
