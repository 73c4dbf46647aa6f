pub mod Answers
pub mod Batches
pub mod Grammar
pub mod Reading
pub mod Spelling
