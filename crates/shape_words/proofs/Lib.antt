pub mod LetterLemmas
pub mod RefusalLemmas
mod Rows
pub mod SameLemmas
