-- What the row of a call shows of its answer.
pub mod Answers
-- What an answer tells.
pub mod Told
