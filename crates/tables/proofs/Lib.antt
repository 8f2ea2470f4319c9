pub mod Numbers
pub mod OfNodes
pub mod Passes
pub mod Rows
pub mod Words
