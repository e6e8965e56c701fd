-- `octets_copy::copy_run` meets its contract: the loop writes the part of `src` (Writing).
use Rattle.lists.specs.Sets.{part, Writing}
use Rattle.octets_copy.proofs.copy_run.Given as goal

abbrev pub invariant-loop-i : goal.invariant-loop-i
invariant-loop-i l = Writing l.initial.dst l.at (part l.src l.from l.count) l.i l.dst
