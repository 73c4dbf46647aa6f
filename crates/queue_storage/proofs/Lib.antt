mod Counting
pub mod Decimals
pub mod Found
pub mod Keeping
pub mod Keys
mod Knowing
mod Logs
pub mod Lookups
mod Peers
pub mod Puts
