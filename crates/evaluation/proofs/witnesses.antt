pub mod Witness
pub mod PrimWitness
pub mod TypedScoped
pub mod TypedClosed
pub mod BindWitness
pub mod FoldWitness
pub mod WitnessTyping
pub mod SourceScoped
