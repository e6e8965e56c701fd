pub mod Parts
pub mod Placed
pub mod Swept
