-- `edge_layout_decode::rows_spelled` meets its contract: the rows below i are tested (Held).
use Rattle.edge_layout.specs.Layout.{cell}
use Rattle.edge_layout.specs.Spelled.{row_spelled}
use Rattle.edge_layout_decode.specs.Loops.{Held}
use Rattle.edge_layout_decode.proofs.rows_spelled.Given as goal

abbrev pub invariant-loop-i : goal.invariant-loop-i
invariant-loop-i l = Held (λ k. row_spelled (cell l.t k)) l.i l.ok
