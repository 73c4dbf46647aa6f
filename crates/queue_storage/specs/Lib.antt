pub mod Calls
pub mod Changes
pub mod Ids
pub mod Queues
pub mod Recorded
pub mod Texts
