-- `call_send::send` meets its contract: behind the gate it is `send_on`.
use Rattle.definition.specs.Frames.{send}
use Rattle.table_gate.specs.Behind.{on, stopped, ended}
use Rattle.call_send.proofs.send.Goals as goal

pub returns-in-Err : goal.returns-in-Err
unfolding send
returns-in-Err c =
    rw (
      ← c.number-s.ensures,
      stopped c.gate.ensures c.in-Err.is,
    ) (ended c.refused.ensures _ _)

pub returns-in-Ok : goal.returns-in-Ok
unfolding send
returns-in-Ok c =
    rw (
      ← c.number-s.ensures,
      on c.gate.ensures c.in-Ok.is,
    ) c.send_on.ensures
