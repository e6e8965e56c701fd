-- The theorem.
pub mod Theorems
-- What it rests on.
pub mod Laws
