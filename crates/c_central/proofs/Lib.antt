pub mod ExportLaws
pub mod WordLaws
