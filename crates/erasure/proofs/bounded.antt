pub mod Bounds
pub mod FitForms
pub mod MeasuredTerms
pub mod Measures
pub mod Refusals
