-- What the definitions of signal_headers, signal_bodies and signal_write say together.
pub mod Fields
pub mod RoundTrip
pub mod Headers
pub mod Feeding
pub mod Buffer
