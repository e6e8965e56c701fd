-- What is said of a call slot by slot: P holds of every slot as it was, as it is left, and of the moves in its part of the room. And the
-- laws by which a call's proof shows it, one for each form that an outcome has (Outcome.antt).
use Rattle.std.specs.Prelude.{◌≡◌, length}
use mathlib.Core.List.{List, [], ◌∷◌}
use Prim.Native.Nat.{◌≤◌}
use Rattle.channel.specs.declared.Slot.{Slot}
use Rattle.channel.specs.declared.Table.{Table}
use Rattle.definition.specs.Mem.{Move}
use Rattle.definition.specs.Table.{live, width}
use Rattle.definition.specs.Outcome.{Outcome}

-- ---- all slots in use

pub data Each (P : Slot → Slot → List Move → Type 0) : List Slot → List Slot → List (List Move) → Type 0 where
  rest : {xs : List Slot} → Each P xs xs []  -- the others stay as they are
  next : {x y : Slot} {ms : List Move} {xs ys : List Slot} {mss : List (List Move)} → P x y ms → Each P xs ys mss → Each P (x ∷ xs) (y ∷ ys) (ms ∷ mss)

-- The table has its N slots.
pub record Fit (t : Table) : Type 0 where
  pub fits : t.n ≤ length t.slots

-- What the laws of the forms rest on: P holds of a slot that is left as it is, and the table has its slots.
pub record Basis (P : Slot → Slot → List Move → Type 0) (t : Table) : Type 0 where
  pub keeps : (x : Slot) → P x x []
  pub fit : Fit t

pub record Does (P : Slot → Slot → List Move → Type 0) (t : Table) (o : Outcome) : Type 0 where
  pub parts : Each P (live t) (live o.table) o.parts
  pub slots : o.table.n ≡ t.n
  pub width : width o.table ≡ width t
  pub fit : Fit o.table

-- ---- tables that have the same slots and sizes

pub record Like (t t' : Table) : Type 0 where
  pub slots : t'.slots ≡ t.slots
  pub n : t'.n ≡ t.n
  pub d : t'.d ≡ t.d
  pub m : t'.m ≡ t.m
