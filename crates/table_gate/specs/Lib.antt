pub mod Sizes
pub mod Passed
pub mod Behind
pub mod Fits
