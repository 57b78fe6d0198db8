pub mod Presences
pub mod Samples
