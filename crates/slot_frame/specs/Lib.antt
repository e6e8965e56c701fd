-- What a frame makes of one slot.
pub mod FrameIn
-- A payload joined in its slot's part of the room.
pub mod Moved
-- The same, put into the table, is what the definition has for a frame.
pub mod Admitted
-- A length put among four.
pub mod Four
