-- What the headers of the signals in a PDU say.
pub mod Headers
-- The first signal of a PDU.
pub mod FirstSignal
