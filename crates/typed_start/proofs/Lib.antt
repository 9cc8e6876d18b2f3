pub mod DataTerms
pub mod ReadRows
pub mod ValueArrays
