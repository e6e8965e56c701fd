-- Every slot's row written, and the head before them: the spelling of the table.
pub mod Whole
-- The head in its parts.
pub mod Head
