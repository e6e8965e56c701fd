-- `table_slot::connected_to` meets its contract: what `is_connected` ensures, put in place.
use Rattle.table_slot.proofs.connected_to.Goals as goal

pub returns : goal.returns
returns c = rw c.is_connected.ensures
