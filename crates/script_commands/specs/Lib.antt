-- The table of calls of a script.
pub mod Commands
-- The table of long calls.
pub mod LongCommands
