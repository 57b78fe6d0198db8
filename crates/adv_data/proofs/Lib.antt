pub mod Lists
pub mod Structures
pub mod Stops
pub mod Seeks
pub mod Searches
