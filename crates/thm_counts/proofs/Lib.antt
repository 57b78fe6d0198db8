pub mod Along
pub mod Kept
pub mod Channels
pub mod Pushed
pub mod Counted
