-- The tests by which whole tables are known, against the definition of reading.
pub mod Loops
pub mod Whole
