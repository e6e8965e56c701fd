-- `table_slot::of_link` meets its contract: what `is_disconnected` ensures, put in place.
use Rattle.table_slot.proofs.of_link.Goals as goal

pub returns : goal.returns
returns c = rw c.is_disconnected.ensures
