-- `edge_dispatch_run::refused` meets its contract: the refusal's number.
use Rattle.edge_dispatch_run.proofs.refused.Goals as goal

pub returns : goal.returns
returns c = rw c.refusal_number.ensures at c.ending.ensures
