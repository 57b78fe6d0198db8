pub mod Key
pub mod Reports
pub mod Whole
