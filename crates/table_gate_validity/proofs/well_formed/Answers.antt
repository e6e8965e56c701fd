-- `table_gate_validity::well_formed` meets its contract: the definition's two tests, by what `sizes_fit` and `slots_fit` ensure.
use Rattle.definition.specs.Table.{well_formed}
use Rattle.table_gate_validity.proofs.well_formed.Goals as goal

pub returns : goal.returns
unfolding well_formed
returns c = rw (c.slots_fit.ensures, c.sizes_fit.ensures)
