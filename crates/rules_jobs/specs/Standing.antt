-- A job that waits stands, octet for octet, until it is taken or its slot is freed: a call after which no fewer jobs wait in a slot leaves those that waited there as they
-- were. Rests on the kinds of step (crate rules) and on the jobs of a part (Waiting.antt).
use Rattle.std.specs.Prelude.{◌≡◌}
use mathlib.Core.List.{List}
use Prim.Native.Nat.{ℕ}
use Rattle.channel.specs.declared.Slot.{Slot}
use Rattle.channel.specs.declared.Table.{Table}
use Rattle.definition.specs.Mem.{Move, moves}
use Rattle.rules.specs.Step.{Step}

pub record Moved (t : Table) (k : ℕ) (js : List ℕ) (x y : Slot) (old new : List ℕ) : Type 0 where
  pub ms : List Move
  pub step : Step t k x y ms
  pub is : new ≡ moves (λ y. y) js old ms
