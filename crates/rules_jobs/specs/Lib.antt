-- Exact rejoining at the table, over the rules of every run.
pub mod Waiting
pub mod Rejoin
pub mod Standing
pub mod Taking
pub mod Sending
-- A Connected slot's peer keeps its CID and MPS.
pub mod Peer
