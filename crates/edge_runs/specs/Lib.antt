pub mod Entries
pub mod Run
pub mod Lift
pub mod Start
pub mod Telling
pub mod Statement
pub mod Rules
pub mod Example
pub mod Reading
pub mod Made
pub mod FrameRun
pub mod JobRun
-- the tallies, at the octets
pub mod Tallies
-- the number of frames that a send tells
pub mod Fewest
