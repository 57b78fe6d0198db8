pub mod Feeds
pub mod Shown
pub mod Untrue
