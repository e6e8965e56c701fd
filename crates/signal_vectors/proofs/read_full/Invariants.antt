-- `signal_vectors::read_full` is safe and ends: each turn reads at least an octet.
use Rattle.std.proofs.Common.{◌-◌, ◌≤◌, length}
use Rattle.signal_vectors.proofs.read_full.Given as goal

abbrev pub invariant-loop-n : goal.invariant-loop-n
invariant-loop-n g l = l.n ≤ length l.buf

abbrev pub decreases-loop-n : goal.decreases-loop-n
decreases-loop-n g l = length l.initial.buf - l.n
