-- `edge_scan::rows_fit` meets its contract: the rows below i are tested (Held).
use Rattle.edge_layout_decode.specs.Loops.{Held}
use Rattle.edge_scan.specs.Scan.{row_passes}
use Rattle.edge_scan.proofs.rows_fit.Given as goal

abbrev pub invariant-loop-i : goal.invariant-loop-i
invariant-loop-i l = Held (row_passes l.t l.n l.d l.place) l.i l.ok
