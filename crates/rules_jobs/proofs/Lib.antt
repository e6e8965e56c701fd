pub mod Waiting
pub mod Rejoin
pub mod Standing
pub mod Taking
-- exact rejoining, before a take
pub mod Exact
pub mod Sending
pub mod Peer
