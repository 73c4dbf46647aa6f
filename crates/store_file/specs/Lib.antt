pub mod Fields
pub mod Order
pub mod Run
pub mod Spelling
pub mod Steps
pub mod Stored
