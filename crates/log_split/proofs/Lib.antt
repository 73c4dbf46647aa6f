pub mod Once
pub mod Splitting
pub mod Taking
