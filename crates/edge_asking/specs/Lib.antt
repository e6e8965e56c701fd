-- Making, the questions and the two senders, on octets.
pub mod Asking
-- that the questions change no table
pub mod Keeps
