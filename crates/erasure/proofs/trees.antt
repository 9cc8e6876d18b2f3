pub mod NormalNotes
pub mod ReadForms
pub mod ReadLists
pub mod TermRows
pub mod WholePrograms
