-- what a call left in its two buffers
pub mod Written
pub mod Called
pub mod Functions
pub mod CodeRun
pub mod Isolated
pub mod Rules
pub mod Rejoining
