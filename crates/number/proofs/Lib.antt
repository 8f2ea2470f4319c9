pub mod Answers
pub mod Laid
pub mod Laws
pub mod Numbers
pub mod One
pub mod Reading
pub mod Refusing
pub mod Writing
