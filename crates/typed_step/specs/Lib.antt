pub mod Outcomes
pub mod Runs
pub mod Frames
pub mod Closing
pub mod Steps
