-- What cutting a job writes and answers, the laws of the count and the plan, and those of long division.
pub mod Cutting
pub mod CutLaws
pub mod Division
