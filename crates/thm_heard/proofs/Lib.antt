pub mod Keeps
pub mod Channels
pub mod Tied
pub mod Brings
pub mod Calls
pub mod Sequences
