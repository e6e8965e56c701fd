-- The bodies of the signals, read.
pub mod Bodies
-- The bodies of the signals of LE credit based connections, read.
pub mod LeCreditBodies
