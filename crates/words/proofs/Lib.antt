pub mod TableLaws
pub mod RowLaws
pub mod FreshLaws
pub mod SearchLaws
