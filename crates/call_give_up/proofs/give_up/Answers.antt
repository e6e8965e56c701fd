-- `call_give_up::give_up` meets its contract: behind the gate code and definition make the same tests in the same order.
use Rattle.table_room.specs.Placed.{room_of}
use Rattle.lists.specs.Choose.{choose}
use Rattle.definition.specs.Opening.{give_up}
use Rattle.table_gate.specs.Behind.{behind, on, stopped, ended}
use Rattle.call_give_up.proofs.give_up.Goals as goal

pub free-requires : goal.free-requires
free-requires c =
    let p = behind c.gate.ensures c.in-Ok.is in
    (room_of p, p.slot_is)

pub returns-then-is_connecting-is_connect_failed : goal.returns-then-is_connecting-is_connect_failed
unfolding choose give_up
returns-then-is_connecting-is_connect_failed c =
    rw (
      ← c.number-s.ensures,
      on c.gate.ensures c.in-Ok.is,
      ← c.slot_at-x.ensures,
      ← c.is_connecting.ensures,
      ← c.is_connect_failed.ensures,
      ← c.is_connected.ensures,
      c.if-is_connecting-is_connect_failed.true,
    ) (c.free.ensures _ _)

pub returns-in-Err : goal.returns-in-Err
unfolding give_up
returns-in-Err c =
    rw (
      ← c.number-s.ensures,
      stopped c.gate.ensures c.in-Err.is,
    ) (ended c.refused.ensures _ _)

pub returns-else-is_connecting-is_connect_failed : goal.returns-else-is_connecting-is_connect_failed
unfolding choose give_up
returns-else-is_connecting-is_connect_failed c =
    rw (
      ← c.number-s.ensures,
      on c.gate.ensures c.in-Ok.is,
      ← c.slot_at-x.ensures,
      ← c.is_connecting.ensures,
      ← c.is_connect_failed.ensures,
      ← c.is_connected.ensures,
      c.if-is_connecting-is_connect_failed.false,
    ) (ended c.refused-in-Ok.ensures _ _)
