-- `edge_closing::dec_ref` meets its contract: the call's own, on the table that the octets spell.
use Rattle.edge.specs.Edge.{on_table_lem}
use Rattle.edge_closing.proofs.hold.dec_ref.Goals as goal

pub returns : goal.returns
returns c = on_table_lem _ _ _ c.decode-d.ensures (c.store.ensures _ _ _) c.dec_ref-s.ensures
