pub mod Heard
pub mod Events
pub mod Shown
