-- What a take makes of one slot.
pub mod Taking
-- A job handed out, as the code does it.
pub mod Handed
-- The same, put into the table, is what the definition has for a take.
pub mod Taken
