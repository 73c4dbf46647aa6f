pub mod Allowed
mod Shown
pub mod Typing
pub mod Written
