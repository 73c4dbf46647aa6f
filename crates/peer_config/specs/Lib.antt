pub mod Forms
pub mod Peers
