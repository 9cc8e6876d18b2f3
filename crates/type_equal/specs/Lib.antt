pub mod Counted
pub mod Moved
pub mod Parts
pub mod Put
pub mod Refusal
pub mod SameTree
pub mod Shown
