pub mod Merged
pub mod Outdone
pub mod Steps
