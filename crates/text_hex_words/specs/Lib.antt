-- Words of hex digits.
pub mod HexWords
