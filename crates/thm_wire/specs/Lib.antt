pub mod Wire
pub mod Shown
