pub mod Kept
pub mod Quiet
pub mod Counting
pub mod Theorems
pub mod Single
pub mod Coded
