-- The room rule (D): every octet of the room that holds no octet of a live job is zero, in every state that a run reaches. And what
-- follows for a slot that is given to a new connection (E). Rests on the places of one slot (Places.antt) and on the steps of every call.
use Rattle.std.specs.Prelude.{◌≡◌, ℕ, ◌+◌, ◌*◌, ◌<◌, get_or, take, drop}
use mathlib.Core.List.{List, [], ◌∷◌}
use Rattle.sar_join.specs.Joining.{idle}
use Rattle.channel.specs.declared.Slot.{Slot}
use Rattle.definition.specs.Table.{width, slot_at, no_job, no_tallies}
use Rattle.definition.specs.Calls.{jobs}
use Rattle.definition.specs.Run.{State}
use Rattle.rules.specs.Places.{Clean}

-- ---- all slots, one part after the other

abbrev pub AllClean : (w p : ℕ) → List Slot → List ℕ → Type 0
AllClean w p [] room = Unit {0}
AllClean w p (x ∷ xs) room = Clean p x.assembly x.queue (take w room) × AllClean w p xs (drop w room)

-- ---- E. no assembly, no waiting job, no job handed over in portions, nothing counted, and the whole part of the room zero

pub record Empty (s : State) (i : ℕ) : Type 0 where
  pub assembly : (slot_at s.table i).assembly ≡ idle
  pub jobs : (slot_at s.table i).queue.count ≡ 0
  pub portions : (slot_at s.table i).job ≡ no_job
  pub tallies : (slot_at s.table i).tallies ≡ no_tallies
  pub room : (o : ℕ) → o < width s.table → get_or s.room (i * width s.table + o) 0 ≡ 0
