-- What a frame, a send, a take and a job handed over in portions leave on octets.
pub mod Frames
-- A send on the table's octets where they stand.
pub mod Sent
-- A frame in on the table's octets where they stand.
pub mod Incoming
-- Both leave a valid table valid.
pub mod Valid
-- A take on the table's octets where they stand.
pub mod Taken
-- A credit signal on the table's octets where they stand.
pub mod Credited
-- A start and a portion on the table's octets where they stand.
pub mod Filled
-- A cancel on the table's octets where they stand.
pub mod Cancelled
