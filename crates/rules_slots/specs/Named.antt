-- What a call that names a slot answers and does hangs on that slot alone, proved in proofs/Named.antt: one lemma a call. Two tables that agree in sizes and
-- identifier are one table with other slots and SPSMs (`beside`), so that only what reads the slot is rewritten.
use Rattle.std.specs.Prelude.{◌≡◌, List, ℕ, ◌≤◌, ◌<◌, length}
use Rattle.channel.specs.declared.Slot.{Slot}
use Rattle.channel.specs.declared.Table.{Table}
use Rattle.definition.specs.Table.{slot_at, well_formed}
use Rattle.definition.specs.Outcome.{Outcome}
use Rattle.rules_slots.specs.Answer.{Same}

-- ---- one table with other slots and SPSMs

abbrev pub beside : Table → List Slot → List ℕ → Table
beside t ys qs = record { slots = ys; n = t.n; d = t.d; m = t.m; identifier = t.identifier; spsms = qs }

-- ---- what is shown of two outcomes: they are the same to the caller, and R holds of each slot that they leave, as it held before

pub record Both (R : ℕ → Slot → Slot → Type 0) (n : ℕ) (o p : Outcome) : Type 0 where
  pub told : Same o p
  pub slots : (i : ℕ) → i < n → R i (slot_at o.table i) (slot_at p.table i)

pub record Pair (R : ℕ → Slot → Slot → Type 0) (t u : Table) : Type 0 where
  pub same : (i : ℕ) (x : Slot) → R i x x
  pub fit : t.n ≤ length t.slots
  pub fits : t.n ≤ length u.slots
  pub slots : (i : ℕ) → i < t.n → R i (slot_at t i) (slot_at u i)
  pub formed : well_formed u ≡ well_formed t
