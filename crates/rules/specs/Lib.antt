-- The rules that hold of every run from a made table, over the definition of the calls.
pub mod Run
pub mod Tests
pub mod Step
pub mod Sound
pub mod Join
pub mod Every
pub mod Good
pub mod Rules
pub mod Places
pub mod RoomRule
pub mod Bench
