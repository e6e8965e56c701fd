-- What the line of a slot shows.
pub mod SlotLine
