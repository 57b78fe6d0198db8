pub mod Pieces
pub mod BuildLaws
