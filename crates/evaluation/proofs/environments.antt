pub mod Placed
pub mod FormPuts
pub mod Puts
pub mod Entered
pub mod Rescoped
pub mod Indices
