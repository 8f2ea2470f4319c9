pub mod Cases
pub mod OfDecimals
pub mod OfLines
pub mod OfPutting
