-- `octets::shift_down` meets its contract: the loop writes the part of `dst` as it was (Writing), and what is left to move is as it was.
use mathlib.Core.Path.{◌≡◌}
use Prim.Native.Nat.{ℕ, ◌+◌, ◌≤◌}
use lib.ListN.{get_or}
use Rattle.lists.specs.Sets.{part, Writing}
use Rattle.octets.proofs.shift_down.Given as goal

abbrev pub invariant-loop-i : goal.invariant-loop-i
invariant-loop-i l = Writing l.initial.dst l.at (part l.initial.dst l.from l.n) l.i l.dst × ((k : ℕ) → l.from + l.i ≤ k → get_or l.dst k 0 ≡ get_or l.initial.dst k 0)
