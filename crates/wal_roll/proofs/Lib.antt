pub mod Logs
pub mod Names
pub mod Sealing
pub mod Standing
