pub mod Acl
pub mod RoundTrip
pub mod Sample
