pub mod CheckedRows
pub mod RuleRows
pub mod StepRows
pub mod TypedRows
