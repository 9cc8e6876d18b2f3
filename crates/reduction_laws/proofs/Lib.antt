pub mod held
pub mod primitives
pub mod programs
pub mod putting
pub mod rows
pub mod runs
pub mod steps
