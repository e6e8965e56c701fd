-- The rows of a call.
pub mod Printed
-- The plain rows of a call.
pub mod PlainRows
