pub mod TestLaws
pub mod ByteLaws
pub mod SpliceLaws
