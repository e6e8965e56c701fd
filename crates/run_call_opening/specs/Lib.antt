-- The calls of pending connections and of attempts.
pub mod Called
