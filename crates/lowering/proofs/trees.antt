pub mod Outputs
pub mod TermTrees
pub mod Loops
pub mod Readings
pub mod Programs
pub mod ParamRows
