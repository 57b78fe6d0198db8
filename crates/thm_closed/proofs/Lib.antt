pub mod Frames
pub mod Begins
pub mod Stands
pub mod Hops
pub mod Sequences
