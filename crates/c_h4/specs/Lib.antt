pub mod Words
pub mod After
