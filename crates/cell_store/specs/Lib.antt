pub mod Cells
pub mod Compaction
pub mod Reading
pub mod Steps
pub mod Writing
