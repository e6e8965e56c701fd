-- `sar_vectors::join_all` ends: what is left gets shorter by a frame each turn.
use Rattle.std.proofs.Common.{length}
use Rattle.sar_vectors.proofs.join_all.Given as goal

abbrev pub decreases-loop-rest : goal.decreases-loop-rest
decreases-loop-rest l = length l.rest
