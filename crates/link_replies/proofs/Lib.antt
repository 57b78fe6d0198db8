pub mod ReplyLaws
pub mod NoticeLaws
