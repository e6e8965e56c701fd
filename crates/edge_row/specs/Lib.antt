-- A call on a table's octets where they stand.
pub mod Gate
pub mod Framed
pub mod Jobbed
