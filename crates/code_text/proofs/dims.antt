pub mod DimsGoes
pub mod DimsTakes
pub mod DimsLoop
pub mod DimsAgain
pub mod Filled
