pub mod Steps
pub mod Fit
pub mod Parts
pub mod Facts
pub mod Refusals
pub mod Gate
