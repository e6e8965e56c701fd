-- Definitions and laws on lists, choices and loops that every crate above shares.
pub mod Choose
pub mod Both
pub mod First
pub mod Every
pub mod Each
pub mod Any
pub mod Bits
pub mod Fuel
pub mod Sets
