pub mod Central
pub mod Kept
pub mod Fresh
