-- `edge_asking::make` meets its contract: the making's own, on octets of the right number.
use Rattle.edge.specs.Edge.{made_on_lem}
use Rattle.edge_asking.proofs.make.Goals as goal

pub returns : goal.returns
returns c = made_on_lem _ _ _ (c.store.ensures _ _ _) (rw c.slots_if-slots.ensures at c.make-s.ensures)
