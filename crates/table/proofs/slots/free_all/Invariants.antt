-- `table::free_all` meets its contract: the slots below i are done (Mapped), nothing but the slots changes.
use mathlib.Core.Path.{◌≡◌}
use Rattle.lists.specs.Each.{Mapped}
use Rattle.lists.specs.Choose.{choose}
use Rattle.definition.specs.Table.{freed, with_slots}
use Rattle.table_slot.specs.Want.{wanted}
use Rattle.table.proofs.slots.free_all.Given as goal

abbrev pub invariant-loop-i : goal.invariant-loop-i
invariant-loop-i l = (l.u ≡ with_slots l.initial.u l.u.slots) × Mapped (λ x. choose (wanted l.w x) (freed x) x) l.initial.u.slots l.i l.u.slots
