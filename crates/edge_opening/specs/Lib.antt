-- Opening, on octets.
pub mod Opening
