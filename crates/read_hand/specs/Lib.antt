pub mod Carrying
pub mod Hands
