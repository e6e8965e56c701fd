-- Laws of the tallies: the page to read is Statement.antt, over the words of Words.antt; proofs/ proves it.
pub mod Words
pub mod Statement
pub mod Kept
pub mod Single
pub mod Code
