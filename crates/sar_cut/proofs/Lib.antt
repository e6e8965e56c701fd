pub mod CutLaws
pub mod Division
