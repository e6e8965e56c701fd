-- `table_slot::unheld_pending_of` meets its contract: what `pending_of` ensures, put in place.
use Rattle.table_slot.proofs.unheld_pending_of.Goals as goal

pub returns : goal.returns
returns c = rw c.pending_of.ensures
