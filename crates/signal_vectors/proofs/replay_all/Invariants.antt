-- `signal_vectors::replay_all` is safe and ends: what is left gets shorter by a line each turn.
use Rattle.std.proofs.Common.{◌≤◌, length}
use Rattle.signal_vectors.proofs.replay_all.Given as goal

abbrev pub invariant-loop-rest : goal.invariant-loop-rest
invariant-loop-rest g l = length l.rest ≤ length l.text

abbrev pub decreases-loop-rest : goal.decreases-loop-rest
decreases-loop-rest g l = length l.rest
