pub mod Longest
pub mod Principal
