-- `signal_bodies::read_disconnection_req` meets its contract: the test of the length tells which arm of the definition it is.
use borrow.Author.Tests.{eq-eqb, ne_eqb}
use Rattle.lists.specs.Choose.{choose}
use Rattle.signal_bodies.specs.Bodies.{disconnection_req}
use Rattle.signal_bodies.proofs.read_disconnection_req.Goals as goal

pub returns-then-body-ne4 : goal.returns-then-body-ne4
unfolding disconnection_req choose
returns-then-body-ne4 c = rw (ne_eqb _ _ c.if-body-ne4.true)

pub returns : goal.returns
unfolding disconnection_req choose
returns c = rw (eq-eqb _ _ c.if-body-ne4.false, c.number.ensures, c.number-2.ensures)
