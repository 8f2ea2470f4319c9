pub mod Closed
pub mod Decides
pub mod Steps
pub mod Tables
