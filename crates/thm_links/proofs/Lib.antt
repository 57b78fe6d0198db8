pub mod Leaves
pub mod Links
