-- `call_start_job::start_job` meets its contract: behind the gate it is `start_on`.
use Rattle.definition.specs.Portions.{start_job}
use Rattle.table_gate.specs.Behind.{on, stopped, ended}
use Rattle.call_start_job.proofs.start_job.Goals as goal

pub returns-in-Err : goal.returns-in-Err
unfolding start_job
returns-in-Err c =
    rw (
      ← c.number-s.ensures,
      stopped c.gate.ensures c.in-Err.is,
    ) (ended c.refused.ensures _ _)

pub returns-in-Ok : goal.returns-in-Ok
unfolding start_job
returns-in-Ok c =
    rw (
      ← c.number-s.ensures,
      on c.gate.ensures c.in-Ok.is,
    ) c.start_on.ensures
