pub mod FitLaws
pub mod GateLaws
pub mod PastGate
