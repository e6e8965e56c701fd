-- `edge_layout_decode::head_spelled` meets its contract: the zeros below i are tested (Held).
use Prim.Native.Nat.{◌+◌}
use lib.Dec.{eqb}
use lib.ListN.{get_or}
use Rattle.edge_layout_decode.specs.Loops.{Held}
use Rattle.edge_layout_decode.proofs.head_spelled.Given as goal

abbrev pub invariant-loop-i : goal.invariant-loop-i
invariant-loop-i l = Held (λ k. eqb (get_or l.t (k + 6) 0) 0) l.i l.ok
