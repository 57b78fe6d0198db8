pub mod Fitness
pub mod Promises
