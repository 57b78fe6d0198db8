pub mod Numbers
pub mod Names
pub mod Packet
pub mod Front
pub mod Samples
