pub mod Cleaning
pub mod Keeping
pub mod Operations
