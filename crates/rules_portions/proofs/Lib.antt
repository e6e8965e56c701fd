-- The theorems.
pub mod Theorems
pub mod Filling
pub mod Answered
-- A job's portions one after the other.
pub mod Delivered
-- What a send writes.
pub mod Sent
