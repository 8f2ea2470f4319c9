pub mod Pushed
pub mod Records
