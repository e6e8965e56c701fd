-- `octets::zero` meets its contract: the loop writes a run of zeros (Writing).
use lib.ListN.{replicate}
use Rattle.lists.specs.Sets.{Writing}
use Rattle.octets.proofs.zero.Given as goal

abbrev pub invariant-loop-i : goal.invariant-loop-i
invariant-loop-i l = Writing l.initial.dst l.at (replicate l.n 0) l.i l.dst
