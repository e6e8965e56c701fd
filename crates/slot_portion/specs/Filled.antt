-- What a start or a portion makes of one slot, with what is written to the job's frame buffer as data (Mem.antt of `definition`); and what that comes to
-- once the slot is put into its table: the definition's form `filling`.
use Rattle.std.specs.Prelude.{◌≡◌, refl, Bool, true, false, List, [], ℕ}
use Rattle.std.proofs.Common.{ap}
use Rattle.codes.specs.declared.Refusal.{Refusal}
use Rattle.channel.specs.declared.Answer.{Answer}
use Rattle.channel.specs.declared.Answer.TheVariants.{Refused}
use Rattle.channel.specs.declared.Served.{Served}
use Rattle.channel.specs.declared.Slot.{Slot}
use Rattle.channel.specs.declared.Table.{Table}
use Rattle.definition.specs.Mem.{Fill, sizes, parts, written}
use Rattle.definition.specs.Table.{width, slot_at, put_slot, blocks, blocked_by}
use Rattle.definition.specs.Outcome.{Outcome, refuse, filling}
use Rattle.definition.specs.Ending.{itself, end, end_of, gave}
use Rattle.definition.proofs.Ending.{parts_none, written_none}
use Rattle.definition.specs.Frames.{unsent}
use Rattle.lists.specs.Choose.{choose}
use Rattle.slot_work.specs.declared.Worked.{Worked}
use Rattle.slot_work.specs.Work.{worked, put_same}

pub record Filled : Type 0 where
  pub answer : Answer
  pub slot : Slot
  pub at : ℕ  -- where in the buffer begins what is written there
  pub out : List Fill
  pub octets : ℕ  -- how many octets are given out at its start

-- A refusal; x is the slot as it leaves it. Nothing is written.
abbrev pub stays : Slot → Refusal → Filled
stays x r = record { answer = Refused r; slot = x; at = 0; out = []; octets = 0 }

-- What the code leaves: what it gave back, and the buffer.
pub record After : Type 0 where
  pub gave : Worked
  pub buffer : List ℕ

abbrev pub after : Worked → (buffer : List ℕ) → After
after w buffer = record { gave = w; buffer = buffer }

-- The same of the work as data, given the job's octets.
abbrev pub after_of : Filled → (jobs buffer : List ℕ) → After
after_of w jobs buffer = after (worked w.answer w.slot w.octets) (written itself jobs [] w.at w.out buffer)

-- The same in a table: slot s becomes what was made of it.
abbrev pub in_table : Table → (slot : ℕ) → Filled → Outcome
in_table t s w = filling t s w.slot w.answer w.at w.out w.octets

-- a refusal that leaves the slot leaves the table
pub refused_in : (t : Table) (s : ℕ) (jobs room buffer job : List ℕ) (r : Refusal)
    → end_of t jobs room buffer job (refuse t r) ≡ end_of t jobs room buffer job (in_table t s (stays (slot_at t s) r))
unfolding end_of parts sizes
refused_in t s jobs room buffer job r = rw (put_same t s, parts_none jobs (width t) s room)

-- one that is blocked changes its tally
pub unsent_in : (t : Table) (s : ℕ) (jobs room buffer job : List ℕ) (r : Refusal)
    → end_of t jobs room buffer job (unsent t s (slot_at t s) r) ≡ end_of t jobs room buffer job (in_table t s (stays (blocked_by r (slot_at t s)) r))
unfolding choose sizes
unsent_in t s jobs room buffer job r = go (blocks r) refl
  where
    go : (b : Bool) → blocks r ≡ b → end_of t jobs room buffer job (unsent t s (slot_at t s) r) ≡ end_of t jobs room buffer job (in_table t s (stays (blocked_by r (slot_at t s)) r))
    go true e = rw e
    go false e = rw e (refused_in t s jobs room buffer job r)

-- by which a call's proof reads it: the slot put into the table, and what is written to the buffer
pub fills_in : (t : Table) (s : ℕ) (w : Filled) (jobs buffer : List ℕ) {r : Worked} {v : Served} {buffer' : List ℕ}
    → v ≡ gave r.answer (put_slot t s r.slot) r.octets → after r buffer' ≡ after_of w jobs buffer → end v [] buffer' [] ≡ end_of t jobs [] buffer [] (in_table t s w)
unfolding end_of
fills_in t s w jobs buffer {r} {v} {buffer'} p e =
    let f : r ≡ worked w.answer w.slot w.octets = ap (λ (a : After). a.gave) e in
    let g : buffer' ≡ written itself jobs [] w.at w.out buffer = ap (λ (a : After). a.buffer) e in
    rw (p, f, g, parts_none jobs (width t) s [], written_none jobs [] [])
