pub mod HandedOut
pub mod OfReader
pub mod OfRows
