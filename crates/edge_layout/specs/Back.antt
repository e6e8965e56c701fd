-- A table is read back from its spelling, and it has one. So octets from which a table was read stay where that table is written back to them.
use Rattle.std.specs.Prelude.{◌≡◌, ℕ, ◌<◌, get_or}
use Rattle.std.proofs.Math.ListN.{length}
use Rattle.channel.specs.Limits.{slots_most, depth_most}
use Rattle.channel.specs.declared.Table.{Table}
use Rattle.definition.specs.Table.{fresh}
use Rattle.edge_layout.specs.Layout.{spsm_octets}

-- ---- a table and its spelling

-- The arrays have their lengths, and N, D and M fit their octets, as they do in every table that is made.
pub record Sized (t : Table) : Type 0 where
  pub slots : length t.slots ≡ slots_most
  pub lens : (i : ℕ) → i < slots_most → length (get_or t.slots i (fresh 0)).queue.lens ≡ depth_most
  pub spsms : length t.spsms ≡ spsm_octets
  pub n : t.n < 256
  pub d : t.d < 256
  pub m : t.m < 65536
