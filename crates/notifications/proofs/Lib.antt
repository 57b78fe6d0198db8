pub mod KeptLaws
pub mod WaitLaws
pub mod KeepLaws
