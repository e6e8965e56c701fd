-- What the contracts on octets cite, beside `sets` of lib.Seq: a part of a run, and a number of two octets.
pub use Rattle.lists.specs.Sets.{part}
pub use Rattle.octets_numbers.specs.Octets.{u16_at, le16}
