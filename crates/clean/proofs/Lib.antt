pub mod OfSearch
pub mod OfJudging
pub mod OfRows
pub mod OfKeeping
