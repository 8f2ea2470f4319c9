pub mod Cases
pub mod SameRules
pub mod WrongAnswers
