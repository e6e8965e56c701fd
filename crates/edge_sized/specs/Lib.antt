pub mod Kept
pub mod Said
