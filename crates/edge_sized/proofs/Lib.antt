pub mod Kept
pub mod Sized
pub mod Said
