pub mod CountLemmas
pub mod CountingLemmas
pub mod RefusalLemmas
mod Rows
pub mod SameLemmas
