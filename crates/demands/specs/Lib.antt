pub mod Demands
pub mod Said
