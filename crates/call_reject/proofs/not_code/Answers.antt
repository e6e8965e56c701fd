-- `call_reject::not_code` meets its contract: the gate, and the refusal behind it.
use Rattle.definition.specs.Pending.{not_code}
use Rattle.table_gate.specs.Behind.{on, stopped, ended}
use Rattle.call_reject.proofs.not_code.Goals as goal

pub returns-in-Err : goal.returns-in-Err
unfolding not_code
returns-in-Err c =
    rw (
      ← c.number-s.ensures,
      stopped c.gate.ensures c.in-Err.is,
    ) (ended c.refused.ensures _ _)

pub returns-in-Ok : goal.returns-in-Ok
unfolding not_code
returns-in-Ok c =
    rw (
      ← c.number-s.ensures,
      on c.gate.ensures c.in-Ok.is,
    ) (ended c.refused-in-Ok.ensures _ _)
