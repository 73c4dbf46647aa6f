pub mod Answers
pub mod Asked
pub mod Lawful
pub mod Plans
pub mod Ran
pub mod Served
pub mod Told
pub mod Underway
