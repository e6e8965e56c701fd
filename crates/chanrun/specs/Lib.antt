-- What a line of a script leaves.
pub mod Served
pub mod ServedLaws
