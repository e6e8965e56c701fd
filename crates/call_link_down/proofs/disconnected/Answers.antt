-- `call_link_down::disconnected` meets its contract: behind the gate code and definition make the same tests in the same order.
use Rattle.table_room.specs.Placed.{room_of}
use Rattle.definition.specs.Closing.{disconnected}
use Rattle.table_gate.specs.Behind.{behind, on, stopped, ended}
use Rattle.call_link_down.proofs.disconnected.Goals as goal

pub free_all-requires : goal.free_all-requires
free_all-requires c =
    let p = behind c.gate.ensures c.in-Ok.is in
    room_of p

pub returns-in-Err : goal.returns-in-Err
unfolding disconnected
returns-in-Err c =
    rw (stopped c.gate.ensures c.in-Err.is) (ended c.refused.ensures _ _)

pub returns-in-Ok : goal.returns-in-Ok
unfolding disconnected
returns-in-Ok c =
    rw (on c.gate.ensures c.in-Ok.is) (c.free_all.ensures _ _)
