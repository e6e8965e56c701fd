-- `signal_vectors::find` meets its contract: nothing was found below i (Passed).
use Rattle.std.proofs.Common.{eqb, length}
use Rattle.lists.specs.First.{Passed}
use Rattle.signal_vectors.proofs.find.Given as goal

abbrev pub invariant-loop-i : goal.invariant-loop-i
invariant-loop-i l = Passed (λ x. eqb x l.c) (length l.s) l.s l.i
