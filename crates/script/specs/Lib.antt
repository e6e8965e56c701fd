-- The table of calls.
pub mod Script
