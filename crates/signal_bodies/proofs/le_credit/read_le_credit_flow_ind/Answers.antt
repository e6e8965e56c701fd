-- `signal_bodies::le_credit::read_le_credit_flow_ind` meets its contract: the test of the length tells which arm of the definition it is.
use borrow.Author.Tests.{eq-eqb, ne_eqb}
use Rattle.lists.specs.Choose.{choose}
use Rattle.signal_bodies.specs.LeCreditBodies.{le_credit_flow_ind}
use Rattle.signal_bodies.proofs.le_credit.read_le_credit_flow_ind.Goals as goal

pub returns-then-body-ne4 : goal.returns-then-body-ne4
unfolding le_credit_flow_ind choose
returns-then-body-ne4 c = rw (ne_eqb _ _ c.if-body-ne4.true)

pub returns : goal.returns
unfolding le_credit_flow_ind choose
returns c = rw (eq-eqb _ _ c.if-body-ne4.false, c.number.ensures, c.number-2.ensures)
