-- `run_queries::queried` meets its contract: the row of the five answers.
use Rattle.run_queries.proofs.queried.Goals as goal

pub returns : goal.returns
returns c = rw (← c.spsm_of-a.ensures, ← c.mtu_of-b.ensures, ← c.mps_of-c.ensures, ← c.peer_mtu_of-d.ensures, ← c.peer_mps_of-e.ensures) c.queried.ensures
