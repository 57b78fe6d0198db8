pub mod Presences
pub mod Spots
