pub mod Range
pub mod Named
pub mod Sample
