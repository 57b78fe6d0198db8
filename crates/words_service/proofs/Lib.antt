pub mod ServiceLaws
pub mod TakenLaws
