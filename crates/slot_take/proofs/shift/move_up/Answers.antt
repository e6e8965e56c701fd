-- `slot_take::shift::move_up` meets its contract: the two moves, one after the other; both products are small (mul-le-mul).
use native.Mathlib.Nat.{one-mul}
use Prim.Native.Nat.{◌-◌}
use native.Mathlib.Nat.{mul-le-mul}
use native.Mathlib.Omega.{arith}
use Rattle.channel.specs.Limits.{packet_most}
use Rattle.definition.specs.Mem.{moves, move, fill}
use Rattle.slot_take.proofs.shift.move_up.Goals as goal

pub overflow_mul-later : goal.overflow_mul-later
overflow_mul-later c =
    let h = mul-le-mul {n₁ = c.args.count - 1} {m₁ = c.args.place} {n₂ = 255} {m₂ = packet_most} (omega arith) (omega arith) in
    record { fits = omega arith }

pub overflow_mul-count : goal.overflow_mul-count
overflow_mul-count c =
    let a = c.args in
    let h = mul-le-mul {n₁ = a.count} {m₁ = a.place} {n₂ = 255} {m₂ = packet_most} (omega arith) (omega arith) in
    record { fits = omega arith }

pub returns : goal.returns
unfolding moves move fill
returns c =
    let a = c.args in
    rw (one-mul a.place) (rw c.shift_down.ensures at c.zero.ensures)
