pub mod LengthLaws
pub mod FrontLaws
