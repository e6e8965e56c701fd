-- What is said of the number of frames that are sent: the page to read.
pub mod Statement
