-- `table_slot::attempt_by` meets its contract: what `attempt_of` and `identifier_of` ensures, put in place.
use Rattle.table_slot.proofs.attempt_by.Goals as goal

pub returns : goal.returns
returns c = rw (c.identifier_of.ensures, c.attempt_of.ensures)
