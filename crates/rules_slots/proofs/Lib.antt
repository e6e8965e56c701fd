pub mod Lists
pub mod States
pub mod Attends
pub mod Kept
pub mod Changes
pub mod Named
pub mod Linked
pub mod Runs
