-- What an answer tells, and the kinds of answers.
pub mod Kinds
pub mod Tells
