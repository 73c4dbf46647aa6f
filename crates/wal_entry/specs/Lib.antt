pub mod Decoded
pub mod Frame
pub mod Framed
pub mod Judging
pub mod Length
pub mod Resumed
pub mod Spelling
pub mod Steps
