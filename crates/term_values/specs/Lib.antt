pub mod Indices
pub mod Rooms
