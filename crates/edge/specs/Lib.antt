-- A call's end, lifted to octets.
pub mod Edge
