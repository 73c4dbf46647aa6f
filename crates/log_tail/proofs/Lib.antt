pub mod Views
pub mod Words
pub mod Steps
pub mod Runs
