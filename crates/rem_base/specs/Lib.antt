pub mod Counts
pub mod Taken
pub mod InMemory
pub mod Adapters
pub mod Sure
