-- The calls of holds and disconnects, of the attention set and of the parameter signals.
pub mod Called
