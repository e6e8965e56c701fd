-- `call_make::not_made` meets its contract.
use Rattle.definition.specs.Mem.{sizes}
use Rattle.call_make.proofs.not_made.Goals as goal

pub returns : goal.returns
unfolding sizes
returns c = rw (c.refused.ensures, c.blank.ensures)
