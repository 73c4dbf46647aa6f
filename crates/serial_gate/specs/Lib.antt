pub mod Gate
pub mod Regions
