pub mod Args
pub mod Arrays
pub mod Boxes
pub mod Folds
pub mod Forms
pub mod Plain
pub mod Rules
