pub mod LongestLemmas
pub mod PrincipalLemmas
