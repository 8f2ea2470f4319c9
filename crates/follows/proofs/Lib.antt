pub mod Adds
pub mod Bridge
pub mod Filling
pub mod FromBlank
pub mod Numbers
pub mod Telling
