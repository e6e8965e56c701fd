-- `edge_closing::inc_ref` meets its contract: the call's own, on the table that the octets spell.
use mathlib.Core.Path.{ap}
use Rattle.edge.specs.Edge.{on_table_lem, alone}
use Rattle.edge_closing.proofs.hold.inc_ref.Goals as goal

pub returns : goal.returns
returns c = on_table_lem _ _ _ c.decode-d.ensures (c.store.ensures _ _ _) (ap alone c.inc_ref-s.ensures)
