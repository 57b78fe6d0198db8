pub mod Ends
pub mod Hops
pub mod Goes
