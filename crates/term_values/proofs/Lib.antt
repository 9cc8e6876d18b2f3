pub mod Kepts
pub mod Products
pub mod Pushes
pub mod Rooms
pub mod Sums
pub mod TermLists
