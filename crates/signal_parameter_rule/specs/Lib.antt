-- The connection parameters that a central takes.
pub mod Parameters
