pub mod Carried
pub mod Fits
