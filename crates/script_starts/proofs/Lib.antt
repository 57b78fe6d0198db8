pub mod AccessLaws
pub mod StartLaws
