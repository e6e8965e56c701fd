-- `edge::slots_if` meets its contract: the test is that of the definition.
use Rattle.lists.specs.Choose.{choose}
use Rattle.edge.proofs.slots_if.Goals as goal

pub returns-then-fits : goal.returns-then-fits
unfolding choose
returns-then-fits c = rw c.if-fits.true

pub returns-else-fits : goal.returns-else-fits
unfolding choose
returns-else-fits c = rw c.if-fits.false
