pub mod Sends
pub mod Starts
pub mod Channels
pub mod Bytes
pub mod Wired
pub mod OnWire
