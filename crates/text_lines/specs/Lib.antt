-- What lines a text has, read in pieces.
pub mod Lines
pub mod LineLaws
