pub mod Cut
pub mod Feed
pub mod Hand
pub mod Samples
