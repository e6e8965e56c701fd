-- The slots that an outcome leaves as they are: what is shown of each form that an outcome has (Outcome.antt of crate definition), and what
-- that says of the room. `May` are the slots that may change.
use Rattle.std.specs.Prelude.{◌≡◌, get_or}
use mathlib.Core.List.{[]}
use Prim.Native.Nat.{ℕ}
use Rattle.channel.specs.declared.Table.{Table}
use Rattle.definition.specs.Mem.{moves, parts}
use Rattle.definition.specs.Table.{slot_at}
use Rattle.definition.specs.Outcome.{Outcome}

-- ---- tables that differ in the identifier alone

pub record Like (t t' : Table) : Type 0 where
  pub slots : t'.slots ≡ t.slots
  pub n : t'.n ≡ t.n
  pub d : t'.d ≡ t.d
  pub m : t'.m ≡ t.m
  pub spsms : t'.spsms ≡ t.spsms

-- ---- what is shown of an outcome

pub record Keeps (May : ℕ → Type 0) (Reg : Type 0) (t : Table) (o : Outcome) : Type 0 where
  pub slot : (i : ℕ) → ¬ May i → slot_at o.table i ≡ slot_at t i
  pub moves : (i : ℕ) → ¬ May i → get_or o.parts i [] ≡ []
  pub n : o.table.n ≡ t.n
  pub d : o.table.d ≡ t.d
  pub m : o.table.m ≡ t.m
  pub spsms : ¬ Reg → o.table.spsms ≡ t.spsms
