-- `table_gate_validity::slot_fits` meets its contract: the definition's tests in its order, four of them by what the functions that make them ensure.
use Rattle.definition.specs.Table.{slot_fits}
use Rattle.table_gate_validity.proofs.slot_fits.Goals as goal

pub returns : goal.returns
unfolding slot_fits
returns c = rw (c.sum_fits.ensures, c.lens_fit.ensures, c.peer_sum_fits.ensures, c.job_fits.ensures)
