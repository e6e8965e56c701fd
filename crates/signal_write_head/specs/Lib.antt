-- The head of a signal's PDU.
pub mod SignalHead
