pub mod OfLongFiles
pub mod OfPrinting
pub mod OfWholeListing
