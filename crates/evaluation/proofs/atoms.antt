pub mod PlainReads
pub mod Inputs
pub mod Through
pub mod ValuePlain
pub mod ValueReads
