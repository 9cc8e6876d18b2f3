pub mod Contents
pub mod Fates
pub mod Made
