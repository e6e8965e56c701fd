-- What a response is answered, by the state in which it leaves its slot.
pub mod Told
