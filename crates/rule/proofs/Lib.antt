pub mod Accepted
pub mod OfKinds
