-- What is said of the number of frames: the page to read.
pub mod Fewest
