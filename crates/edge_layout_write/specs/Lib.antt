-- Octets written into rows, and what stands in each then.
pub mod Cells
-- What is written into a row.
pub mod Puts
