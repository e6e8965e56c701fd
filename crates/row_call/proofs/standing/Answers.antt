-- `row_call::standing` meets its contract, by its one test.
use borrow.Author.Tests.{eq-eqb, ne_eqb}
use Rattle.lists.specs.Choose.{choose}
use Rattle.row_call.specs.Printed.{standing}
use Rattle.row_call.proofs.standing.Goals as goal

pub returns-then-j-eq0 : goal.returns-then-j-eq0
unfolding standing choose
returns-then-j-eq0 c = rw (eq-eqb _ 0 c.if-j-eq0.true)

pub returns-else-j-eq0 : goal.returns-else-j-eq0
unfolding standing choose
returns-else-j-eq0 c = rw (ne_eqb _ 0 c.if-j-eq0.false)
