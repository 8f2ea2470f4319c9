pub mod TheFace
