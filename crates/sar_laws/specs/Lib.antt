-- What a run of payloads does to a slot, that it undoes a cut, and what a step leaves of the slot's part of the room.
pub mod Run
pub mod Rejoin
pub mod Free
