-- What the end of a slot's line shows.
pub mod PeerLine
-- The lengths of a queue, one by one.
pub mod Four
