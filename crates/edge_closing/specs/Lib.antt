-- Closing, on octets.
pub mod Closing
-- Holding, on octets.
pub mod Holding
