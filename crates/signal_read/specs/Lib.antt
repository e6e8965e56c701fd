-- Any signal, read.
pub mod SignalRead
