pub mod Value
pub mod ValueLaws
pub mod Theorems
