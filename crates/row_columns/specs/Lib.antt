-- Columns of numbers.
pub mod Columns
pub mod ColumnLaws
