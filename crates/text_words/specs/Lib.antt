-- The words of a line, and where each stands.
pub mod Words
pub mod WordLaws
