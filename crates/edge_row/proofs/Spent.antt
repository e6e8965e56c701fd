-- The octet of the next identifier, in the spelling.
use Rattle.std.specs.Prelude.{◌≡◌, ℕ, ◌-◌, set}
use Rattle.std.proofs.Math.Path.{refl}
use Rattle.channel.specs.declared.Slot.{Slot}
use Rattle.channel.specs.declared.Table.{Table}
use Rattle.definition.specs.Table.{put_slot, next_id, id_after, spent}
use Rattle.edge_layout.specs.Layout.{head, spell}

-- the spelling with another next identifier: octet 5
pub spell-spent : (t : Table) (i : ℕ) (x : Slot) → spell (put_slot (spent t) i x) ≡ set (spell (put_slot t i x)) 5 (id_after (next_id t))
unfolding spell head
spell-spent t i x = refl
