-- `call_signal::signal` meets its contract: behind the gate it is `checked`.
use Rattle.definition.specs.Signals.{signalled}
use Rattle.table_room.specs.Placed.{room_of}
use Rattle.table_gate.specs.Behind.{behind, on, stopped, ended}
use Rattle.call_signal.proofs.signal.Goals as goal

pub checked-requires : goal.checked-requires
checked-requires c =
    let p = behind c.gate.ensures c.in-Ok.is in
    (room_of p, p.signal-is)

pub returns-in-Err : goal.returns-in-Err
unfolding signalled
returns-in-Err c =
    rw (stopped c.gate.ensures c.in-Err.is) (ended c.refused.ensures _ _)

pub returns-in-Ok : goal.returns-in-Ok
unfolding signalled
returns-in-Ok c =
    rw (on c.gate.ensures c.in-Ok.is) c.checked.ensures
