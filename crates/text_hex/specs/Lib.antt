-- Octets as words of hex digits, read; and what is written is read again.
pub mod Hex
pub mod HexLaws
