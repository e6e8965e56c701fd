-- `call_receive::receive` meets its contract: behind the gate it is `take`.
use Rattle.definition.specs.Frames.{receive}
use Rattle.table_room.specs.Placed.{room_of}
use Rattle.table_gate.specs.Behind.{behind, on, stopped, ended}
use Rattle.call_receive.proofs.receive.Goals as goal

pub take-requires : goal.take-requires
take-requires c =
    let p = behind c.gate.ensures c.in-Ok.is in
    (room_of p, p.slot_is, p.signal-is)

pub returns-in-Err : goal.returns-in-Err
unfolding receive
returns-in-Err c =
    rw (
      ← c.number-s.ensures,
      stopped c.gate.ensures c.in-Err.is,
    ) (ended c.refused.ensures _ _)

pub returns-in-Ok : goal.returns-in-Ok
unfolding receive
returns-in-Ok c =
    rw (
      ← c.number-s.ensures,
      on c.gate.ensures c.in-Ok.is,
    ) c.take.ensures
