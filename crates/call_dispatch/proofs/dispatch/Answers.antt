-- `call_dispatch::dispatch` meets its contract: the gate's refusals, and behind them `admitted`.
use Rattle.definition.specs.Frames.{dispatch}
use Rattle.table_room.specs.Placed.{room_of}
use Rattle.table_gate.specs.Behind.{behind, on, stopped, ended}
use Rattle.call_dispatch.proofs.dispatch.Goals as goal

pub admitted-requires : goal.admitted-requires
admitted-requires c =
    let p = behind c.gate.ensures c.in-Ok.is in
    (room_of p, p.formed)

pub returns-in-Err : goal.returns-in-Err
unfolding dispatch
returns-in-Err c =
    rw (stopped c.gate.ensures c.in-Err.is) (ended c.refused.ensures _ _)

pub returns-in-Ok : goal.returns-in-Ok
unfolding dispatch
returns-in-Ok c =
    rw (on c.gate.ensures c.in-Ok.is) c.admitted.ensures
