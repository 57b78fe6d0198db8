pub mod Characteristic
pub mod Rust
pub mod Sample
