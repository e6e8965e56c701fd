-- What a run of frames leaves.
pub mod Frames
-- How it begins, and its turns.
pub mod Begins
pub mod Turn
