pub mod Appended
pub mod Cuttings
pub mod ReadBack
