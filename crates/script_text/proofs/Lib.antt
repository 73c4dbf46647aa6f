pub mod Dues
pub mod Generated
pub mod Listing
pub mod Numbers
pub mod Pieces
pub mod Reading
pub mod Scripts
