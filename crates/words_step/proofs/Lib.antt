pub mod StepLaws
pub mod FitLaws
