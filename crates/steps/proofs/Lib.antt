pub mod Apart
pub mod Arrows
pub mod Closing
pub mod Decided
pub mod Declares
pub mod Laws
pub mod Rows
