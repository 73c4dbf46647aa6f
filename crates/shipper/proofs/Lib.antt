pub mod Greatest
pub mod Longest
pub mod Standing
