pub mod Codes
pub mod Items
pub mod Kinds
pub mod Limits
pub mod Lists
pub mod Told
