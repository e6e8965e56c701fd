-- `table_gate_sizes::room_size` meets its contract: the product is small (room_most).
use native.Mathlib.Omega.{arith}
use Rattle.table_gate_sizes.specs.Sizes.{width-most, room_most}
use Rattle.table_gate_sizes.proofs.room_size.Goals as goal

pub overflow_mul-result : goal.overflow_mul-result
overflow_mul-result c =
    let a = c.args in
    let s = c.requires in
    let h = room_most a.n _ s.n-most (width-most a.d a.m s.d_most s.m_most) in
    record { fits = rw c.part_size.ensures (omega arith) }

pub returns : goal.returns
returns c = rw c.part_size.ensures
