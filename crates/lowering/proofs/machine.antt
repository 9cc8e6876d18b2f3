pub mod Follows
pub mod Simulates
pub mod Machines
pub mod Lowered
pub mod Continued
