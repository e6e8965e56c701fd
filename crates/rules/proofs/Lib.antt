pub mod Run
pub mod Tests
pub mod Forms
pub mod Join
pub mod Every
pub mod Aside
pub mod Keep
pub mod Good
pub mod Rules
pub mod Places
pub mod RoomRule
-- a slot that is given to a new connection
pub mod Fresh
pub mod Bench
