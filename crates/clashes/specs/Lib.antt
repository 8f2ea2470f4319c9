pub mod Coded
pub mod Judging
pub mod Marks
pub mod Tally
pub mod Told
pub mod Types
