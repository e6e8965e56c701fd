-- What the octets of a signal are.
pub mod Writer
