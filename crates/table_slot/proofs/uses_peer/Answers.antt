-- `table_slot::uses_peer` meets its contract: what `of_link` ensures, put in place.
use Rattle.table_slot.proofs.uses_peer.Goals as goal

pub returns : goal.returns
returns c = rw c.of_link.ensures
