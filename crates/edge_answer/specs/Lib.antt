-- A call's answer as octets.
pub mod Answers
