-- `sar_vectors::show` is safe: the check stays below its modulus.
use Rattle.std.proofs.Common.{◌<◌}
use Rattle.sar_vectors.proofs.show.Given as goal

abbrev pub invariant-loop-i : goal.invariant-loop-i
invariant-loop-i g l = l.c < 65521
