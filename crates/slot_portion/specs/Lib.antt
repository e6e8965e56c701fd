-- What a start or a portion makes of one slot and of the job's frame buffer, and what that comes to in the table.
pub mod Filled
-- What a start makes of one slot; what a portion makes of it; what a cancel makes of it.
pub mod Starting
pub mod Giving
pub mod Cancelling
-- That work, put into the table, is the definition's start, portion and cancel.
pub mod Into
-- What a start and a portion leave alone.
pub mod Alone
