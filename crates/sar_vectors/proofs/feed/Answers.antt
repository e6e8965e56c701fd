-- `sar_vectors::feed` is safe: its guards give `join_frame` what it asks.
use Rattle.std.proofs.Common.{◌+◌, arith}
use Rattle.std.proofs.Math.Nat.{mul-le-mul}
use Rattle.sar_vectors.proofs.feed.Goals as goal

pub overflow_mul-beside : goal.overflow_mul-beside
overflow_mul-beside c =
    omega (arith, mul-le-mul {n₁ = c.args.d + 1} {m₁ = c.args.mtu} {n₂ = 65536} {m₂ = 65535} (omega arith) (omega arith))
