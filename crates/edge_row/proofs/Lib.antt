pub mod Parts
-- the octet of the next identifier, in the spelling
pub mod Spent
pub mod Row
pub mod Gate
pub mod Framed
pub mod Stays
pub mod Taken
pub mod Jobbed
pub mod Room
