-- The laws of a number as two octets, passed on.
pub use Rattle.octets_numbers.specs.Numbers.{le16_back, lo_back, hi_back, lo_octet, hi_octet}
