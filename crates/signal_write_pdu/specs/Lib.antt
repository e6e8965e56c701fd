-- The PDU of one signal.
pub mod Pdu
