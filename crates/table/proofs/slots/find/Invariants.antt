-- `table::find` meets its contract: no slot below i is wanted (Passed).
use Rattle.lists.specs.First.{Passed}
use Rattle.table_slot.specs.Want.{wanted}
use Rattle.table.proofs.slots.find.Given as goal

abbrev pub invariant-loop-i : goal.invariant-loop-i
invariant-loop-i l = Passed (wanted l.w) l.t.n l.t.slots l.i
