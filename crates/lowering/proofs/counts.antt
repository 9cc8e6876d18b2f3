pub mod Bound
pub mod Bounds
pub mod ProgramBound
pub mod Credit
pub mod Credits
pub mod Backward
