pub mod Tools
pub mod Telling
pub mod Identifiers
pub mod Crediting
pub mod Stepping
pub mod Concluding
pub mod Running
pub mod Between
