pub mod Forms
pub mod Headings
pub mod Loop
pub mod Numbers
pub mod Reading
pub mod Within
pub mod Whole
