pub mod Closing
pub mod Effects
pub mod Marks
pub mod Recovery
pub mod Unflushed
