-- `call_queries::query::told` meets its contract: behind the gate, the number.
use Rattle.definition.specs.Mem.{sizes}
use Rattle.definition.specs.Asking.{query}
use Rattle.table_gate.specs.Behind.{on, stopped}
use Rattle.call_queries.proofs.query.told.Goals as goal

pub returns-in-Err : goal.returns-in-Err
unfolding query
returns-in-Err c =
    rw (
      ← c.number.ensures,
      stopped c.gate.ensures c.in-Err.is,
    ) c.refused.ensures

pub returns-in-Ok : goal.returns-in-Ok
unfolding sizes query
returns-in-Ok c =
    rw (
      ← c.number.ensures,
      on c.gate.ensures c.in-Ok.is,
      c.still.ensures,
    )
