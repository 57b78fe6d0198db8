pub mod GiveLaws
pub mod NamedLaws
pub mod Keeps
