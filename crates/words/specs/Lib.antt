pub mod Table
pub mod Words
pub mod Tables
pub mod Rows
