-- What is job and what is public in a call (Calls.antt), checked against document 01's words: the octets of a frame are its length octets
-- and its job octets, and the call that `decide` sees stays the same whatever the job octets are, as long as there are as many.
use Rattle.std.specs.Prelude.{◌≡◌, ℕ, ◌+◌, ◌<◌}
use Rattle.channel.specs.Limits.{cid_base}
use Rattle.channel.specs.declared.Table.{Table}
use Rattle.definition.specs.Table.{slot_at}

-- An assembly is open in the slot that the CID names.
pub record Assembling (t : Table) (cid : ℕ) : Type 0 where
  pub slot : ℕ
  pub named : cid ≡ cid_base + slot
  pub within : slot < t.n
  pub wants : ¬ ((slot_at t slot).assembly.want ≡ 0)
