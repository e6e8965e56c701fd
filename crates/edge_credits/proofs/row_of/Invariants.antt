-- `edge_credits::row_of` meets its contract: no row below i is the one (Passed).
use Rattle.lists.specs.First.{Passed}
use Rattle.definition.specs.Table.{connected_to}
use Rattle.edge_layout.specs.Layout.{taken}
use Rattle.edge_credits.proofs.row_of.Given as goal

abbrev pub invariant-loop-i : goal.invariant-loop-i
invariant-loop-i l = Passed (connected_to l.link l.cid) l.n (taken l.t).slots l.i
