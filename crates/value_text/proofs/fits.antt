pub mod FitsLemmas
pub mod FitsReads
pub mod FitsTexts
pub mod FitsWhole
pub mod Ranges
pub mod ReadsFits
pub mod SaidReads
