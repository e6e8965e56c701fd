-- `call_attention::attention` meets its contract: behind the gate the answer is what crate `table_attention` ensures.
use mathlib.Core.Path.{ap}
use Rattle.channel.specs.declared.Answer.{Answer}
use Rattle.definition.specs.Mem.{sizes}
use Rattle.definition.specs.Ending.{gave}
use Rattle.definition.specs.Asking.{attention}
use Rattle.table_gate.specs.Behind.{on, stopped}
use Rattle.call_attention.proofs.attention.Goals as goal

pub returns-in-Err : goal.returns-in-Err
unfolding attention
returns-in-Err c =
    rw (stopped c.gate.ensures c.in-Err.is) c.refused.ensures

pub returns-in-Ok : goal.returns-in-Ok
unfolding sizes attention
returns-in-Ok c =
    rw (
      on c.gate.ensures c.in-Ok.is,
      c.still.ensures,
    ) (ap (λ (a : Answer). gave a c.args.t 0) c.attention-a.ensures)
