-- `edge_pending::reject_pending` meets its contract: the call's own, on the table that the octets spell.
use Rattle.edge.specs.Edge.{on_table_lem}
use Rattle.edge_pending.proofs.reject_pending.Goals as goal

pub returns : goal.returns
returns c = on_table_lem _ _ _ c.decode-d.ensures (c.store.ensures _ _ _) c.reject_pending-s.ensures
