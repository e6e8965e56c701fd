-- `S` of a script.
pub mod Signalled
pub mod Turns
