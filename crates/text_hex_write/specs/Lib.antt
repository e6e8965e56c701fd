-- Octets written as hex.
pub mod HexText
pub mod HexTextLaws
