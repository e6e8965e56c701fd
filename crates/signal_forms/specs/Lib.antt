-- A refused connect response; the longest signal.
pub mod Forms
pub mod Limits
