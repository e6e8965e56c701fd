-- `edge_answer::put_answer` meets its contract: what is written is what `tells` gave.
use mathlib.Core.Path.{ap}
use Rattle.channel_answer.specs.declared.Told.{Told}
use Rattle.edge_answer.proofs.put_answer.Goals as goal

pub returns : goal.returns
returns c =
    let told_is = c.tells-x.ensures in
    record { value = ap (λ (x : Told). x.refusal) told_is; out_after = rw told_is at c.put_told.ensures }
