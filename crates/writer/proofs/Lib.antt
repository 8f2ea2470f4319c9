pub mod AtLimits
pub mod FactBytes
pub mod Judging
pub mod Laying
pub mod Left
pub mod OneWriting
pub mod TwoPasses
pub mod Within
