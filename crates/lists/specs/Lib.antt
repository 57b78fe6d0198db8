pub mod Cut
pub mod First
pub mod Taken
pub mod Queue
pub mod Blocks
