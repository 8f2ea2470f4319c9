pub mod OfKeptAgain
pub mod OfKeptBundle
pub mod OfOperations
pub mod OfQuestions
