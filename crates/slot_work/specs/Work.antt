-- What a call makes of one slot, with the moves in its part of the room as data (Mem.antt of `definition`); and what that comes to once the slot is put into
-- its table: the definition's form `change`.
use Rattle.std.specs.Prelude.{◌≡◌, refl, List, [], ℕ}
use Rattle.std.proofs.Common.{ap}
use Rattle.std.proofs.lemmas.List.{set-get_or}
use Rattle.lists.specs.Choose.{if_cases}
use Rattle.codes.specs.declared.Refusal.{Refusal}
use Rattle.channel.specs.declared.Answer.{Answer}
use Rattle.channel.specs.declared.Served.{Served}
use Rattle.channel.specs.declared.Slot.{Slot}
use Rattle.channel.specs.declared.Table.{Table}
use Rattle.definition.specs.Mem.{Fill, Move, sizes, parts, written}
use Rattle.definition.specs.Table.{width, gap, slot_at, with_slots, put_slot, with_peer_credits, with_sends, blocks, blocked_by}
use Rattle.definition.specs.Outcome.{Outcome, still, only, change}
use Rattle.definition.specs.Ending.{itself, end, end_of, gave}
use Rattle.definition.proofs.Ending.{parts_none, written_none}
use Rattle.slot_work.specs.declared.Worked.{Worked}

pub record Work : Type 0 where
  pub answer : Answer
  pub slot : Slot
  pub moves : List Move  -- in the slot's part of the room
  pub out : List Fill  -- what is written to the lent output, from its start

-- The slot stays as it was.
abbrev pub kept : Slot → Answer → Work
kept x a = record { answer = a; slot = x; moves = []; out = [] }

-- The slot becomes x, and its part of the room changes by ms.
abbrev pub becomes : Slot → List Move → Answer → Work
becomes x ms a = record { answer = a; slot = x; moves = ms; out = [] }

-- What the code gives back for it.
abbrev pub worked : Answer → Slot → (octets : ℕ) → Worked
worked a x n = record { answer = a; slot = x; octets = n }

abbrev pub worked_of : Work → Worked
worked_of w = worked w.answer w.slot (sizes w.out)

-- The same in a table: slot s becomes what was made of it.
abbrev pub in_table : Table → (slot : ℕ) → Work → Outcome
in_table t s w = change t s w.slot w.moves w.answer w.out

-- ---- what a send and a start change: the peer's credits, and what is counted of sends

-- slot x with these as y has them
abbrev pub sending_as : (y x : Slot) → Slot
sending_as y x = with_sends y.tallies.sends (with_peer_credits y.peer.credits x)

-- a plan's refusal changes no more
pub blocked_sends : (r : Refusal) (x : Slot) → blocked_by r x ≡ sending_as (blocked_by r x) x
blocked_sends r x = if_cases (λ y. y ≡ sending_as y x) (blocks r) (λ _. refl) (λ _. refl)

-- ---- a slot that stays

pub put_same : (t : Table) (s : ℕ) → put_slot t s (slot_at t s) ≡ t
put_same t s = ap (with_slots t) (set-get_or t.slots s gap)

-- a call that leaves the slot leaves the table
pub end_kept : (t : Table) (s : ℕ) (a : Answer) (jobs room out job : List ℕ) → end_of t jobs room out job (in_table t s (kept (slot_at t s) a)) ≡ end_of t jobs room out job (still t a [])
unfolding end_of parts
end_kept t s a jobs room out job = rw (put_same t s, parts_none jobs (width t) s room)

-- ---- by which a call's proof reads it: the slot put into the table, its part of the room moved in, and what is written

pub works_in : (t : Table) (s : ℕ) (w : Work) (jobs room out job : List ℕ) {r : Worked} {v : Served} {room' out' : List ℕ}
    → v ≡ gave r.answer (put_slot t s r.slot) r.octets → r ≡ worked_of w
    → room' ≡ parts itself jobs (width t) (only s w.moves) room → out' ≡ written itself jobs room 0 w.out out
    → end v room' out' job ≡ end_of t jobs room out job (in_table t s w)
unfolding end_of
works_in t s w jobs room out job p e f g = rw (p, e, f, g, written_none jobs room job)
