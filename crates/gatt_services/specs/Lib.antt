pub mod Service
pub mod Sample
