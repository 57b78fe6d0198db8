pub mod Table
pub mod Strict
