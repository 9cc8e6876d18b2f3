pub mod ArrayLemmas
pub mod ExprParts
pub mod FramedLemmas
pub mod ListsWritten
pub mod MadeWritten
pub mod TreesMade
pub mod WrittenLemmas
