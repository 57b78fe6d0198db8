pub mod Field
pub mod LendsField
pub mod LendsFieldAlone
pub mod Rows
