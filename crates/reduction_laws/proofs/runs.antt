pub mod Once
pub mod Results
pub mod TypedRuns
