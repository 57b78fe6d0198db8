pub mod PlaceLaws
pub mod LoopLaws
pub mod ScanLaws
pub mod AnswerLaws
