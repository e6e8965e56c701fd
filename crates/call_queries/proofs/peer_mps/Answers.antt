-- `call_queries::peer_mps` meets its contract: the query that tells what was read is the query of it.
use Rattle.definition.specs.Asking.{query}
use Rattle.call_queries.proofs.peer_mps.Goals as goal

pub returns : goal.returns
unfolding query
returns c = rw (c.told.ensures, c.slot_at-x.ensures, c.number.ensures)
