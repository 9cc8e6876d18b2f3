pub mod Answers
pub mod ArrayAnswers
pub mod Boxes
pub mod Folds
pub mod Outcomes
