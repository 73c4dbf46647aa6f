mod Adding
mod Columns
mod Order
mod Rows
mod Searching
mod Showing
