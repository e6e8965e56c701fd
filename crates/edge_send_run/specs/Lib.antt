-- What a run of jobs leaves.
pub mod Jobs
-- A turn of its loop.
pub mod Turn
