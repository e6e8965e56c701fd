-- What a send does to one slot.
pub mod Sending
-- The frames of a send are those that are cut.
pub mod Sent
-- That work, put into the table, is the definition's send.
pub mod Into
