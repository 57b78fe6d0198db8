pub mod Packet
pub mod Events
pub mod Build
pub mod Sample
