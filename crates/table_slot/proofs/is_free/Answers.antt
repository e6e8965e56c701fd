-- `table_slot::is_free` meets its contract: what `is_disconnected` ensures, put in place.
use Rattle.table_slot.proofs.is_free.Goals as goal

pub returns : goal.returns
returns c = rw c.is_disconnected.ensures
