pub mod ResultLaws
