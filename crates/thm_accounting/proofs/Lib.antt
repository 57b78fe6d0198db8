pub mod Numbered
pub mod Gives
pub mod Starts
pub mod Channels
pub mod Books
pub mod Accounting
pub mod Times
