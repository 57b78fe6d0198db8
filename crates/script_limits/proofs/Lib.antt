pub mod AllLaws
