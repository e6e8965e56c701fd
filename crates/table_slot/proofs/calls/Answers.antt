-- `table_slot::calls` meets its contract: what `is_due` and `is_connect_failed` ensures, put in place.
use Rattle.table_slot.proofs.calls.Goals as goal

pub returns : goal.returns
returns c = rw (c.is_connect_failed.ensures, c.is_due.ensures)
