-- `edge_run::put_ended` meets its contract: what is told is the run's end, its two counts in halves.
use mathlib.Core.Path.{refl}
use Rattle.edge_run.proofs.put_ended.Goals as goal

pub returns : goal.returns
returns c =
    record { value = refl; answer_after = rw (c.low.ensures, c.high.ensures, c.low-2.ensures, c.high-2.ensures) at c.put_told.ensures }
