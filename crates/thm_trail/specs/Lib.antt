pub mod Calls
pub mod Trail
pub mod Log
