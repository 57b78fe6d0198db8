pub mod Numbers
pub mod Pdu
