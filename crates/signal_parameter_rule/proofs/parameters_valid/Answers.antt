-- `signal_parameter_rule::parameters_valid` meets its contract: each test is one of the definition's, in its order; the product fits 32 bits.
use Prim.Native.Nat.{◌≤◌, ◌+◌, ◌*◌}
use native.Mathlib.Nat.{mul-le-mul}
use native.Mathlib.Omega.{arith}
use Rattle.lists.proofs.Rules.{tests}
use Rattle.signal_parameter_rule.specs.Parameters.{parameters_valid}
use Rattle.signal_parameter_rule.proofs.parameters_valid.Goals as goal

pub returns-then-p-lt6 : goal.returns-then-p-lt6
unfolding parameters_valid
returns-then-p-lt6 c = search tests

pub returns-then-p : goal.returns-then-p
unfolding parameters_valid
returns-then-p c = search tests

pub returns-then-p-gt3200 : goal.returns-then-p-gt3200
unfolding parameters_valid
returns-then-p-gt3200 c = search tests

pub returns-then-p-gt499 : goal.returns-then-p-gt499
unfolding parameters_valid
returns-then-p-gt499 c = search tests

pub returns-then-p-lt10 : goal.returns-then-p-lt10
unfolding parameters_valid
returns-then-p-lt10 c = search tests

pub returns-then-p-gt3200-2 : goal.returns-then-p-gt3200-2
unfolding parameters_valid
returns-then-p-gt3200-2 c = search tests

pub overflow_mul-result : goal.overflow_mul-result
overflow_mul-result c =
    let a = c.args.p in
    let h : (1 + a.latency) * a.max ≤ 500 * 3200 = mul-le-mul {n₂ = 500} {m₂ = 3200} (omega arith) (omega arith) in
    omega arith

pub returns : goal.returns
unfolding parameters_valid
returns c = search tests
