pub mod Accepted
pub mod Complete
pub mod ProgramParts
pub mod ProgramStates
pub mod ProgramSteps
