pub mod Best
pub mod Order
pub mod Parts
mod Passing
pub mod Sorted
mod Together
