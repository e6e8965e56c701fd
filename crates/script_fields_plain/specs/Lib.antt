-- What the plain words of a call say.
pub mod PlainFields
