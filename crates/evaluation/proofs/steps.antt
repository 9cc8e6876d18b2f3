pub mod Reduces
pub mod Contexts
pub mod Rests
pub mod Collapsed
pub mod ScalarSteps
pub mod PlaceSteps
pub mod GoingOn
