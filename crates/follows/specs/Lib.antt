pub mod Adding
pub mod Tells
