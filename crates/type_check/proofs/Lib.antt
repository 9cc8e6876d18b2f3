pub mod contexts
pub mod exits
pub mod normal_forms
pub mod one_by_one
pub mod substitution
pub mod trees
pub mod whole_programs
