pub mod Counts
pub mod Prints
