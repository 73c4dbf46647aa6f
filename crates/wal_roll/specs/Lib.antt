pub mod Blamed
pub mod Keeps
pub mod Kept
pub mod Log
pub mod Steps
