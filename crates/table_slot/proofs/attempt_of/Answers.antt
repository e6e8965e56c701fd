-- `table_slot::attempt_of` meets its contract: what `is_connecting` ensures, put in place.
use Rattle.table_slot.proofs.attempt_of.Goals as goal

pub returns : goal.returns
returns c = rw c.is_connecting.ensures
