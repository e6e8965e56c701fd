-- Laws of the slots, over the definition of the calls: each stated on a page of its own (Attention, Change, Answer, in the words of Words), and
-- proved in other files.
pub mod Words
pub mod Attention
pub mod Change
pub mod Kept
pub mod Answer
pub mod Named
pub mod Linked
