-- What a call comes to: an answer, the table after it, and what it does to memory as data (Mem.antt). An outcome is built from
-- five forms only: `still`, `change`, `handout`, `filling` and `sweep`. And `gate`, the refusals that come first in every call.
use Rattle.std.specs.Prelude.{Bool, false, not, List, [], ◌∷◌, map, ℕ, zero, suc, eqb, leb, ltb, Err, None, Ok, Option, Result, Some}
use Rattle.lists.specs.Choose.{choose}
use Rattle.lists.specs.Each.{map_first}
use Rattle.codes.specs.declared.Refusal.{Refusal}
use Rattle.codes.specs.declared.Refusal.TheVariants.{BadTable, BadRoom, NoRoom, BadHandle, BadSlot}
use Rattle.channel.specs.Limits.{signal_most, handle_most}
use Rattle.channel.specs.declared.Answer.{Answer}
use Rattle.channel.specs.declared.Answer.TheVariants.{Done, Refused}
use Rattle.channel.specs.declared.ChannelState.{ChannelState}
use Rattle.channel.specs.declared.Slot.{Slot}
use Rattle.channel.specs.declared.Table.{Table}
use Rattle.definition.specs.Mem.{Fill, zeros, Move, put, wipe, sizes}
use Rattle.definition.specs.Slots.{left}
use Rattle.definition.specs.Table.{when◌then◌else◌, place_of, room_size, live, with_slots, put_slot, freed, well_formed}

pub record Outcome : Type 0 where
  pub answer : Answer
  pub table : Table
  pub parts : List (List Move)  -- what happens in the slots' parts of the room, slot by slot
  pub at : ℕ  -- where in it begins what is written to the lent signal buffer, frame output or job's frame buffer
  pub out : List Fill  -- what is written there
  pub octets : ℕ  -- how many octets are given out at its start
  pub job : List Fill  -- what is written to the lent job buffer, from its start (a take)

-- ---- the five forms

-- Nothing changes but the output. (t is the table after the call: the caller's, or that with an identifier used.)
abbrev pub still : Table → Answer → List Fill → Outcome
still t a out = record { answer = a; table = t; parts = []; at = 0; out = out; octets = sizes out; job = [] }

-- Moves in one slot's part alone.
unfoldable pub only : ℕ → List Move → List (List Move)
only zero ms = ms ∷ []
only (suc s) ms = [] ∷ only s ms

-- Slot s becomes x, and its part of the room changes by ms.
abbrev pub change : Table → ℕ → Slot → List Move → Answer → List Fill → Outcome
change t s x ms a out = record { answer = a; table = put_slot t s x; parts = only s ms; at = 0; out = out; octets = sizes out; job = [] }

-- The same with a job handed out: a take.
abbrev pub handout : Table → ℕ → Slot → List Move → Answer → (out job : List Fill) → Outcome
handout t s x ms a out job = record { answer = a; table = put_slot t s x; parts = only s ms; at = 0; out = out; octets = sizes out; job = job }

-- Slot s becomes x, and a job's frame buffer is filled from octet `at` on; so many octets of it are given out: a start, a portion.
abbrev pub filling : Table → ℕ → Slot → Answer → (at : ℕ) → List Fill → (octets : ℕ) → Outcome
filling t s x a at out octets = record { answer = a; table = put_slot t s x; parts = only s []; at = at; out = out; octets = octets; job = [] }

-- Every slot that passes the test is freed.
abbrev pub freed_if : (Slot → Bool) → Slot → Slot
freed_if p x = choose (p x) (freed x) x

abbrev pub sweep : Table → (Slot → Bool) → Answer → Outcome
sweep t p a =
    record {
      answer = a;
      table = with_slots t (map_first t.n (λ x. freed_if p x) t.slots);
      parts = map (λ x. choose (p x) (wipe ∷ []) []) (live t);
      at = 0;
      out = [];
      octets = 0;
      job = [];
    }

-- ---- what the forms are used for

-- "Unless a row says more, table, room and buffers stay unchanged"
abbrev pub refuse : Table → Refusal → Outcome
refuse t r = still t (Refused r) []

abbrev pub done : Table → Outcome
done t = still t Done []

-- Slot s, as x, is freed: "freeing a slot [zeroes] what it held" (its whole part, READINGS A4).
abbrev pub freeing : Table → ℕ → Slot → Answer → List Fill → Outcome
freeing t s x a out = change t s (freed x) (wipe ∷ []) a out

-- The assembly place, place 0 of a part, zeroed.
abbrev pub unassembled : (size : ℕ) → Move
unassembled size = put 0 (zeros size)

-- Slot s, as x, leaves Connected: "leaving Connected [zeroes] the assembly place".
abbrev pub leaving : Table → ℕ → Slot → ChannelState → Answer → Outcome
leaving t s x k a = change t s (left k x) (unassembled (place_of t) ∷ []) a []

-- ---- "First 1, 2, 3 (signal buffer), 4, 6, then the order of each section."

abbrev pub fails : (ℕ → Bool) → Option ℕ → Bool
fails bad None = false
fails bad (Some x) = bad x

unfoldable pub verdict : Table → (room signal link slot : Option ℕ) → Result (Unit {0}) Refusal
verdict t room signal link slot =
    when not (well_formed t) then Err BadTable
    else when fails (λ size. not (eqb size (room_size t))) room then Err BadRoom
    else when fails (λ size. ltb size signal_most) signal then Err NoRoom
    else when fails (λ l. ltb handle_most l) link then Err BadHandle
    else when fails (λ s. leb t.n s) slot then Err BadSlot
    else Ok tt

-- what follows is done only where the verdict lets it pass
abbrev pub passed : Table → Result (Unit {0}) Refusal → Outcome → Outcome
passed t (Ok tt) o = o
passed t (Err r) o = refuse t r

abbrev pub gate : Table → (room signal link slot : Option ℕ) → Outcome → Outcome
gate t room signal link slot o = passed t (verdict t room signal link slot) o
