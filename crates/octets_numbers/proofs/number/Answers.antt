-- `octets_numbers::number` meets its contract: past the end both octets are 0.
use Prim.Native.Nat.{◌+◌}
use native.Mathlib.Omega.{arith}
use lib.ListN.{get_or-eq_default}
use Rattle.octets_numbers.proofs.number.Goals as goal

pub returns-else-at-s : goal.returns-else-at-s
returns-else-at-s c =
    let s = c.args.s.now in
    omega (arith, get_or-eq_default s 0 c.if-at-s.false, get_or-eq_default s 0 {n = c.args.at + 1} (omega arith))
