-- What a call makes of one slot.
pub mod Work
