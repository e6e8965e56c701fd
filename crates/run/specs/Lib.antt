-- Every command with the row that it prints.
pub mod Playing
