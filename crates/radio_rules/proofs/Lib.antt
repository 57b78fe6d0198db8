pub mod HearingLaws
pub mod Keeps
