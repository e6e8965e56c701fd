-- `text_cut::find` meets its contract: nothing is found below i (Passed), in the part that is searched.
use Prim.Native.Nat.{◌-◌}
use lib.ListN.{drop}
use Rattle.lists.specs.First.{Passed}
use Rattle.text_cut.specs.Cut.{is}
use Rattle.text_cut.proofs.find.Given as goal

abbrev pub invariant-loop-i : goal.invariant-loop-i
invariant-loop-i l = Passed (is l.c) (l.to - l.from) (drop l.from l.s) l.i
