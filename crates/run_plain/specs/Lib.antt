-- The calls that `called` makes, each with its row.
pub mod Played
