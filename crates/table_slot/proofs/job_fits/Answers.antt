-- `table_slot::job_fits` meets its contract: the definition's tests in its order, the first by what `is_open` ensures.
use Rattle.table_slot.proofs.job_fits.Goals as goal

pub returns : goal.returns
returns c = rw c.is_open.ensures
