pub mod EventLaws
pub mod GateLaws
