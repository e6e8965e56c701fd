-- `table::refused` meets its contract: nothing was written, which is 0 octets.
use Rattle.definition.specs.Mem.{sizes}
use Rattle.table.proofs.refused.Goals as goal

pub returns : goal.returns
unfolding sizes
returns c = c.still.ensures
