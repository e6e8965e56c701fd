-- What joining a frame's payload answers and leaves, and its laws.
pub mod Joining
pub mod JoinLaws
