pub mod Results
pub mod Links
pub mod Timers
