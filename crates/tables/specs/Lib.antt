pub mod Bits
pub mod Listed
pub mod Passes
pub mod Rows
