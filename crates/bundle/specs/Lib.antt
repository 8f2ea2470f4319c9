pub mod Bundle
pub mod Faults
pub mod Lawful
pub mod Opened
pub mod Told
