-- `row_view::write_view` meets its contract: the slots passed are written (Writes), a line each (slots-more).
use Prim.Native.Nat.{zero}
use lib.ListN.{take}
use Rattle.text_write.specs.Rows.{Writes}
use Rattle.definition.specs.Table.{live}
use Rattle.row_view.specs.View.{slots_text}
use Rattle.row_view.proofs.write_view.Given as goal

abbrev pub invariant-loop-i : goal.invariant-loop-i
invariant-loop-i l = Writes l.initial.out l.initial.next (slots_text zero (take l.i (live l.t))) l.next l.out
