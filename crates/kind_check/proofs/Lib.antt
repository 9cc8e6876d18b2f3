pub mod BlameLemmas
pub mod ContextLemmas
pub mod FormedLemmas
pub mod KindLemmas
pub mod MadeLemmas
pub mod SortLemmas
