pub mod ArrayRows
pub mod BoxRows
pub mod FoldTerms
pub mod Marks
pub mod Numbers
pub mod ScalarAnswers
