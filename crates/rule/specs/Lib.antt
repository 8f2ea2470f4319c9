pub mod OneRule
pub mod Told
