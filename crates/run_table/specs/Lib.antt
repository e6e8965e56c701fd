-- The lines that ask for the table itself, and their rows.
pub mod PlayedTable
pub mod PlayedTableLaws
