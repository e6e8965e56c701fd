-- A text cut at a character.
pub mod Cut
pub mod CutLaws
