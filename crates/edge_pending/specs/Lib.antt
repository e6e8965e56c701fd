-- Pending, on octets.
pub mod Pending
