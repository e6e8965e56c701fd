-- What a run of calls is.
pub mod Run
-- By which a run's loop reads it.
pub mod Turns
-- And the loop itself.
pub mod Running
