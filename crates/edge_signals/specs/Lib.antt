-- Signals, on octets.
pub mod Signals
-- The PDUs that begin with a credit signal, which works where the octets stand.
pub mod Crediting
