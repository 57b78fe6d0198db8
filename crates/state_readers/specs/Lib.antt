pub mod Readers
pub mod Numbers
pub mod Sample
