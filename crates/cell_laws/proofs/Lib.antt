mod Columns
mod Column
mod First
mod Latest
mod Listed
mod Own
mod Shown
