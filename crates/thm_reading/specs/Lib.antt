pub mod Live
pub mod Same
pub mod Dead
pub mod Calls
