pub mod FormLemmas
pub mod Free
pub mod FreeBelow
pub mod NormSound
pub mod NotForms
