pub mod Binding
pub mod Entering
pub mod Likes
pub mod SynthLemmas
pub mod SynthSteps
pub mod VariableLemmas
