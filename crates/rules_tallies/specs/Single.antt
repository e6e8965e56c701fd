-- A call changes the tallies of one slot at most, and only of a slot of its own; but for link down, and a connect response that matches no attempt, which free several. Rests on which slots a call
-- may change (crate rules_slots, Change.antt).
use Rattle.std.specs.Prelude.{◌≡◌, Bool, List, ℕ, ◌<◌, get_or}
use Rattle.channel.specs.declared.Table.{Table}
use Rattle.definition.specs.Table.{slot_at}
use Rattle.definition.specs.Calls.{Call, down, plain, Window, signals}
use Rattle.rules_slots.specs.Words.{Attempt}

-- Link down; a signal 0x15 whose identifier no Connecting slot of its link has.
pub data Several (t : Table) : Call → Type 0 where
  link_down : {l : ℕ} → Several t (down l)
  response : {l : ℕ} {listening central : Bool} {pdu : List ℕ} {v w : Window} → get_or pdu 0 0 ≡ 0x15 → ((j : ℕ) → j < t.n → ¬ Attempt l (get_or pdu 1 0) (slot_at t j))
      → Several t (plain (signals l listening central pdu) v w)
