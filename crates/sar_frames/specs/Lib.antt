-- Laws of the frames that cutting a job writes.
pub mod FrameLaws
pub mod Theorems
