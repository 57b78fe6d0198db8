pub mod ErrorLaws
pub mod ResponseLaws
