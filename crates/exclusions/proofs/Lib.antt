pub mod Lowers
pub mod Mirroring
pub mod Taking
