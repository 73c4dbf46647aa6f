pub mod Batches
pub mod Forming
pub mod Heads
pub mod Newly
