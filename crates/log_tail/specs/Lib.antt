pub mod Knowing
pub mod Tails
