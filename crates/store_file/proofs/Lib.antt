pub mod Back
mod Held
pub mod Judged
pub mod Ordered
pub mod Written
