-- `call_give_portion::give_portion` meets its contract: behind the gate it is `portion_on`.
use Rattle.definition.specs.Portions.{give_portion}
use Rattle.table_gate.specs.Behind.{on, stopped, ended}
use Rattle.call_give_portion.proofs.give_portion.Goals as goal

pub returns-in-Err : goal.returns-in-Err
unfolding give_portion
returns-in-Err c =
    rw (
      ← c.number-s.ensures,
      stopped c.gate.ensures c.in-Err.is,
    ) (ended c.refused.ensures _ _)

pub returns-in-Ok : goal.returns-in-Ok
unfolding give_portion
returns-in-Ok c =
    rw (
      ← c.number-s.ensures,
      on c.gate.ensures c.in-Ok.is,
    ) c.portion_on.ensures
