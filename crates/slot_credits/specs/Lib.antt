-- What a credit signal makes of one slot.
pub mod Crediting
-- The same, put into the table, is what the definition has for the signal.
pub mod Into
