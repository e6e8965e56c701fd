-- The table's octets: what they are, the tests by which they are known, and that each table has one spelling.
pub mod Layout
pub mod Spelled
pub mod Columns
pub mod Back
