-- What it is to write a piece of a row.
pub mod Rows
pub mod Text
