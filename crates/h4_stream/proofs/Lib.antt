pub mod CutLaws
pub mod HandLaws
pub mod FeedLaws
