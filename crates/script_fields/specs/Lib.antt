-- What the words of a call say.
pub mod Fields
