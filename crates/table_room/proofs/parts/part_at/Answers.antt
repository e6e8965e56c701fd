-- `table_room::part_at` meets its contract: the product is small (room_most).
use native.Mathlib.Omega.{arith}
use Rattle.table_gate_sizes.specs.Sizes.{width-most, room_most}
use Rattle.table_room.proofs.parts.part_at.Goals as goal

pub overflow_mul-result : goal.overflow_mul-result
overflow_mul-result c =
    let a = c.args in
    let p = c.requires in
    let h = room_most a.s _ (omega arith) (width-most a.d a.m p.0 p.1) in
    record { fits = rw c.part_size.ensures (omega arith) }

pub returns : goal.returns
returns c = rw c.part_size.ensures
