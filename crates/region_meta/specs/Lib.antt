pub mod Changes
pub mod Orders
pub mod Refusals
pub mod Regions
