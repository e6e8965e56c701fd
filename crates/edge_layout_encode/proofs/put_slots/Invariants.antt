-- `edge_layout_encode::put_slots` meets its contract: the slots below i are written (Rowing).
use Rattle.edge_layout_encode.specs.Whole.{Rowing}
use Rattle.edge_layout_encode.proofs.put_slots.Given as goal

abbrev pub invariant-loop-i : goal.invariant-loop-i
invariant-loop-i l = Rowing l.initial.out l.t.slots l.i l.out
