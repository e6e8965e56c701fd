-- A number as two octets in a run of octets, with its laws.
pub mod Octets
pub mod Numbers
-- A number of 64 bits in four of 16.
pub mod Limbs
