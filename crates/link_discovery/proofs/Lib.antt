pub mod EnteredLaws
pub mod TableLaws
