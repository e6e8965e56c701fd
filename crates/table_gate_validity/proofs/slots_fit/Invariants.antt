-- `table_gate_validity::slots_fit` meets its contract: every slot passed so far fits (Kept), and the array has SLOTS slots.
use mathlib.Core.Path.{◌≡◌}
use Prim.Native.Nat.{min}
use Rattle.lists.specs.Every.{Kept}
use Rattle.channel.specs.Limits.{slots_most}
use Rattle.definition.specs.Table.{slot_fits, place_of}
use Rattle.table_gate_validity.proofs.slots_fit.Given as goal

abbrev pub invariant-loop-i : goal.invariant-loop-i
invariant-loop-i l = (l.n ≡ min l.t.n slots_most) × (l.place ≡ place_of l.t) × Kept (slot_fits l.t.d (place_of l.t)) l.t.n l.t.slots l.i
