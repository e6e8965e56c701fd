-- What each call has to see to, so that no link's jobs reach another (demand 3): job octets go into slots of the link that carries them,
-- alone, and a slot that changes hands was free or is wiped. Said of tables and moves, without an octet; proofs/Safe.antt has one lemma
-- a call, and `safe` for all of them, and that a link-down that answers 0 leaves no slot of its link.
use Rattle.std.specs.Prelude.{◌≡◌, Bool, true, false, ◌&&◌, List, [], ◌∷◌}
use Prim.Native.Nat.{ℕ}
use Rattle.channel.specs.declared.Slot.{Slot}
use Rattle.channel.specs.declared.Table.{Table}
use Rattle.definition.specs.Outcome.{Outcome}
use Rattle.definition.specs.Calls.{Holder, nobody, holder, is_by}
use Rattle.definition.specs.Mem.{zeros, given, job, held, Move, put, wipe}
use Rattle.definition.specs.Forms.{Does}

-- ---- one slot

abbrev pub jobless_move : Move → Bool
jobless_move (put at (zeros n)) = true
jobless_move (put at (given xs)) = true
jobless_move (put at (job from n)) = false
jobless_move (put at (held from n)) = true
jobless_move wipe = true

-- Moves that put no job octet of this call.
abbrev pub jobless : List Move → Bool
jobless [] = true
jobless (m ∷ ms) = jobless_move m && jobless ms

-- l: whose job octets the call has; old and new: the slot; ms: the moves in its part of the room.
pub data SafeSlot (l : Holder) (old new : Slot) : List Move → Type 0 where
  kept : {ms : List Move} → holder new ≡ holder old → jobless ms ≡ true → SafeSlot l old new ms  -- its link keeps it
  mine : {ms : List Move} → holder new ≡ holder old → holder old ≡ l → SafeSlot l old new ms  -- it is the calling link's own
  allotted : {ms : List Move} → holder old ≡ nobody → jobless ms ≡ true → SafeSlot l old new ms  -- it was nobody's
  wiped : SafeSlot l old new (wipe ∷ [])

abbrev pub Safe : Table → Holder → Outcome → Type 0
Safe t l o = Does (SafeSlot l) t o

-- ---- after a link-down answered 0 no slot is that link's

-- no slot is link k's
abbrev pub Without : ℕ → List Slot → Type 0
Without k [] = Unit {0}
Without k (x ∷ xs) = (is_by k (holder x) ≡ false) × Without k xs
