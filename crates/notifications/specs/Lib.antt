pub mod Kept
pub mod Wait
pub mod Sample
