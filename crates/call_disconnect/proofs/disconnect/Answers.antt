-- `call_disconnect::disconnect` meets its contract: behind the gate code and definition make the same tests in the same order.
use Rattle.table_room.specs.Placed.{room_of}
use Rattle.definition.specs.Closing.{disconnect}
use Rattle.table_gate.specs.Behind.{behind, on, stopped, ended}
use Rattle.call_disconnect.proofs.disconnect.Goals as goal

pub disconnecting-requires : goal.disconnecting-requires
disconnecting-requires c =
    let p = behind c.gate.ensures c.in-Ok.is in
    (room_of p, p.slot_is)

pub returns-in-Err : goal.returns-in-Err
unfolding disconnect
returns-in-Err c =
    rw (
      ← c.number-s.ensures,
      stopped c.gate.ensures c.in-Err.is,
    ) (ended c.refused.ensures _ _)

pub returns-in-Ok : goal.returns-in-Ok
unfolding disconnect
returns-in-Ok c =
    rw (
      ← c.number-s.ensures,
      on c.gate.ensures c.in-Ok.is,
    ) c.disconnecting.ensures
