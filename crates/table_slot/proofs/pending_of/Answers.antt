-- `table_slot::pending_of` meets its contract: what `is_peer_connecting` ensures, put in place.
use Rattle.table_slot.proofs.pending_of.Goals as goal

pub returns : goal.returns
returns c = rw c.is_peer_connecting.ensures
