pub mod InMemory
pub mod Pair
pub mod Performs
pub mod Served
pub mod Sides
pub mod Stored
pub mod Told
pub mod Views
