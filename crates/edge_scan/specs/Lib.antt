-- What the pass over the octets tests, and that it is refusal 1.
pub mod Scan
pub mod Valid
