pub mod Closed
pub mod Shown
