pub mod Notices
pub mod Waits
