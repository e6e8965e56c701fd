-- Laws of one call, for every table and every call: what it tells and with which identifier, and which steps its slots make.
pub mod Told
pub mod Identifiers
pub mod Credits
pub mod Steps
pub mod Stepping
pub mod Consequences
pub mod Concluding
pub mod Runs
-- what a portion of a job finds, whatever calls came since the last
pub mod Between
