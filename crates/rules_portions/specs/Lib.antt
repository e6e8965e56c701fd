-- What is said of a job handed over in portions: the page to read.
pub mod Statement
-- ---- what they rest on

-- One portion, in numbers and octets.
pub mod Filling
-- What an answer of 0 tells of a call.
pub mod Answered
