-- `table::slots::freed_if` meets its contract: the test is the definition's, by what `fits` ensures.
use Rattle.lists.specs.Choose.{choose}
use Rattle.table.proofs.slots.freed_if.Goals as goal

pub returns-then-fits : goal.returns-then-fits
unfolding choose
returns-then-fits c = rw (← c.fits.ensures, c.if-fits.true, c.freed.ensures)

pub returns-else-fits : goal.returns-else-fits
unfolding choose
returns-else-fits c = rw (← c.fits.ensures, c.if-fits.false)
