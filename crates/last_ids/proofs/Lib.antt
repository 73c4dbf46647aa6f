pub mod Placing
mod Searching
