pub mod InPlace
pub mod Replacing
