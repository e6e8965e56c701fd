-- `edge_layout_decode::slots_in` meets its contract: the slots below i are stored (Filled).
use Rattle.channel.specs.Limits.{slots_most}
use Rattle.edge_layout.specs.Layout.{cell, slot_in}
use Rattle.edge_layout_decode.specs.Loops.{Filled}
use Rattle.edge_layout_decode.proofs.slots_in.Given as goal

abbrev pub invariant-loop-i : goal.invariant-loop-i
invariant-loop-i l = Filled (λ k. slot_in (cell l.t k)) slots_most l.i l.xs
